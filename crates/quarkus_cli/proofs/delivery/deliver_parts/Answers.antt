use Rattle.std.proofs.Common.{refl, inl, inr}
use Rattle.quarkus_cli.proofs.Ends.{unwritten, unsaid}
use Rattle.quarkus_cli.proofs.delivery.deliver_parts.Goals as goal

pub returns-in-Err-Absent : goal.returns-in-Err-Absent
returns-in-Err-Absent g c = absurd (c.in-Err-Absent.ensures.not_absent c.in-Err-Absent.field-0-is)

pub returns-in-Err-Failed : goal.returns-in-Err-Failed
returns-in-Err-Failed g c =
    unwritten _ _ _ _ c.in-Err-Failed.field-0 _ c.in-Err-Failed.ensures (inr (refl, c.in-Err-Failed.ensures.failed c.in-Err-Failed.field-0-is))

pub returns-in-Err-Memory : goal.returns-in-Err-Memory
returns-in-Err-Memory g c = unwritten _ _ _ _ c.in-Err-Memory.field-0 _ c.in-Err-Memory.ensures (inl refl)

pub returns-in-Err-Failed-write_all : goal.returns-in-Err-Failed-write_all
returns-in-Err-Failed-write_all g c =
    let puts = c.in-Err-Failed-write_all.ensures.puts_all in
    unsaid _ _ _ _ _ _ c.in-Err-Failed-write_all.field-0 _ c.in-Ok.ensures c.as_bytes.ensures.value puts (inr (refl, puts.failed c.in-Err-Failed-write_all.field-0-is))

pub returns-in-Err-Memory-write_all : goal.returns-in-Err-Memory-write_all
returns-in-Err-Memory-write_all g c =
    unsaid _ _ _ _ _ _ c.in-Err-Memory-write_all.field-0 _ c.in-Ok.ensures c.as_bytes.ensures.value c.in-Err-Memory-write_all.ensures.puts_all (inl refl)
