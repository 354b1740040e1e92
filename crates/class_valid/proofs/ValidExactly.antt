-- A class is valid exactly where some bytes spell it.
use Rattle.std.proofs.Common.{◌≡◌, ℕ, List, sym, subst}
use Rattle.class_pool.specs.declared.class.Class.{Class}
use Rattle.class_grammar.specs.Grammar.{Spells}
use Rattle.class_grammar.specs.Bytes.{class_bytes}
use Rattle.class_grammar.specs.Valid.{IsValid}
use Rattle.class_valid.proofs.Built.{class_spelled}
use Rattle.class_valid.proofs.PoolBuilt.{pool_spelled}

pub valid_spelled : (c : Class) → IsValid c → Spells (class_bytes c) c
valid_spelled c h = class_spelled c (pool_spelled c.pool h.pool) h
