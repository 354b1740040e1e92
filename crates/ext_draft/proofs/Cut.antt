-- Bytes past the limit of a file don't count.
use Rattle.std.proofs.Common.{◌≡◌, ◌+◌, ℕ, List, length, take, false, inl, inr, ap, refl, arith, length-take-le}
use Rattle.std.proofs.Math.Dec.{leb}
use Rattle.std.proofs.lemmas.Bool.{lt-leb}
use Rattle.std.proofs.lemmas.Bool.Decides.{leb_tells}
use Rattle.std.proofs.lemmas.List.{take_all}
use Rattle.ext_draft.specs.DraftOfTheBytes.{draft, draft_within}

cut : (limit : ℕ) (bytes : List ℕ) → draft_within limit (take (limit + 1) bytes) ≡ draft_within limit bytes
cut limit bytes =
    elim (leb_tells (length bytes) limit) [
      | inl t ↦ ap (draft_within limit) (take_all (limit + 1) bytes (omega (arith, t.1)))
      | inr f ↦
          let long : length (take (limit + 1) bytes) ≡ limit + 1 = length-take-le (limit + 1) bytes (omega (arith, f.1)) in
          let e : leb (length (take (limit + 1) bytes)) limit ≡ false = lt-leb _ limit (omega (arith, long)) in
          rw (e, f.0) refl
    ]

pub draft_cut : (bytes : List ℕ) → draft (take 1048577 bytes) ≡ draft bytes
unfolding draft
draft_cut bytes = cut 1048576 bytes
