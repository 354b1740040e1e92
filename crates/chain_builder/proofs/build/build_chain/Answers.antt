use Rattle.chain_builder.proofs.build.build_chain.Goals as goal

pub judged-requires : goal.judged-requires
judged-requires c = rw (c.as_slice.ensures, c.as_slice-2.ensures, c.as_slice-3.ensures) c.requires
