-- A text has at most as many characters as bytes.
use Rattle.std.proofs.Common.{ℕ, ◌≤◌, List, [], ◌∷◌, length, arith, length-append}
use Rattle.std.specs.Char.{len_utf8}
use Rattle.std.specs.Str.{chars, IsUtf8, encode_utf8_all}
use Rattle.std.proofs.lemmas.Bool.Decides.{nat_tests}
use Rattle.std.proofs.lemmas.Str.{length-encode, encodes-chars}
use lib.Utf8.{encode}

some_bytes : (c : ℕ) → 1 ≤ len_utf8 c
some_bytes c = grind (arith, nat_tests)

fewer : (cs : List ℕ) → length cs ≤ length (encode_utf8_all cs)
fewer [] = omega arith
fewer (c ∷ cs) = omega (arith, fewer cs, some_bytes c, length-encode c, length-append (encode c) (encode_utf8_all cs))

pub fewer_chars : (bytes : List ℕ) → IsUtf8 bytes → length (chars bytes) ≤ length bytes
fewer_chars bytes u = rw (encodes-chars bytes u) at (fewer (chars bytes))
