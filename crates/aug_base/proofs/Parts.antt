-- A part of a file, as it is made, filled, renamed or taken away.
use Rattle.std.proofs.Common.{◌≡◌, ◌∙◌, ap, refl, sym, subst, cond, Bool, true, false, ℕ, ◌+◌, List, [], ◌++◌, take, drop, Option, Some, None, option_map}
use Rattle.std.specs.Prelude.{bytes_eq, codes, decimal}
use Rattle.std.proofs.lemmas.List.{append_assoc}
use Rattle.std.proofs.Math.Seq.{take-add}
use mathlib.Core.Path.{fun_ext}
use Rattle.aug_base.specs.Files.{Files, with_file}
use Rattle.aug_base.specs.Systems.{IsPart, OthersStay, Replaced, StaysBut, with_more, without, renamed}
use Rattle.aug_base.proofs.Places.{eq_name}

-- more bytes, and then more
twice : (a b : List ℕ) (o : Option (List ℕ)) → option_map (λ s. s ++ b) (option_map (λ s. s ++ a) o) ≡ option_map (λ s. s ++ (a ++ b)) o
twice a b None = refl
twice a b (Some s) = ap Some (append_assoc s a b)

twice-by : (x : Bool) (a b : List ℕ) (o : Option (List ℕ))
    → cond x (option_map (λ s. s ++ b) (cond x (option_map (λ s. s ++ a) o) o)) (cond x (option_map (λ s. s ++ a) o) o)
    ≡ cond x (option_map (λ s. s ++ (a ++ b)) o) o
twice-by true a b o = twice a b o
twice-by false a b o = refl

with_more-twice : (part a b : List ℕ) (m : Files) → with_more part b (with_more part a m) ≡ with_more part (a ++ b) m
with_more-twice part a b m = fun_ext (λ q. twice-by (bytes_eq q part) a b (m q))

mapped : (f g h : Files → Files) (first middle last : Option Files) → ((m : Files) → g (f m) ≡ h m)
    → middle ≡ option_map f first → last ≡ option_map g middle → last ≡ option_map h first
mapped f g h None middle last same p q = q ∙ ap (option_map g) p
mapped f g h (Some m) middle last same p q = q ∙ ap (option_map g) p ∙ ap Some (same m)

pub grow_more : (part bytes : List ℕ) (done count : ℕ) (first middle last : Option Files)
    → middle ≡ option_map (with_more part (take done bytes)) first → last ≡ option_map (with_more part (take count (drop done bytes))) middle
    → last ≡ option_map (with_more part (take (done + count) bytes)) first
grow_more part bytes done count first middle last p q =
    let P : List ℕ → Type 0 = λ s. last ≡ option_map (with_more part s) first in
    subst P (sym (take-add done count bytes))
    (mapped (with_more part (take done bytes)) (with_more part (take count (drop done bytes))) (with_more part (take done bytes ++ take count (drop done bytes)))
    first middle last (with_more-twice part (take done bytes) (take count (drop done bytes))) p q)

-- each other name holds what it held
hidden : (x : Bool) (a b : Option (List ℕ)) → cond x None (cond x a b) ≡ cond x None b
hidden true a b = refl
hidden false a b = refl

pub others_same : (part : List ℕ) (first last : Option Files) → last ≡ first → OthersStay part first last
others_same part first last p = ap (option_map (without part)) p

pub others_then : (part : List ℕ) (first middle last : Option Files) → OthersStay part first middle → OthersStay part middle last → OthersStay part first last
others_then part first middle last p q = q ∙ p

others_by : (part : List ℕ) (f : Files → Files) (first last : Option Files) → ((m : Files) → without part (f m) ≡ without part m)
    → last ≡ option_map f first → OthersStay part first last
others_by part f first last same p = mapped f (without part) (without part) first last (option_map (without part) last) same p refl

pub others_more : (part more : List ℕ) (first last : Option Files) → last ≡ option_map (with_more part more) first → OthersStay part first last
others_more part more first last p =
    others_by part (with_more part more) first last (λ m. fun_ext (λ q. hidden (bytes_eq q part) (option_map (λ bytes. bytes ++ more) (m q)) (m q))) p

pub others_file : (part bytes : List ℕ) (first last : Option Files) → last ≡ option_map (with_file (part, bytes)) first → OthersStay part first last
others_file part bytes first last p =
    others_by part (with_file (part, bytes)) first last (λ m. fun_ext (λ q. hidden (bytes_eq q part) (Some bytes) (m q))) p

pub others_gone : (part : List ℕ) (first last : Option Files) → last ≡ option_map (without part) first → OthersStay part first last
others_gone part first last p = others_by part (without part) first last (λ m. fun_ext (λ q. hidden (bytes_eq q part) None (m q))) p

-- the part, once it is filled, takes the file's name
renamed-by : (x y z : Bool) (bytes : List ℕ) (o r : Option (List ℕ)) → z ≡ true
    → cond x (cond z (option_map (λ s. s ++ bytes) (cond z (Some []) r)) (cond z (Some []) r)) (cond y None (cond y (option_map (λ s. s ++ bytes) (cond y (Some []) o)) (cond y (Some []) o)))
    ≡ cond x (Some bytes) (cond y None o)
renamed-by true y true bytes o r is = refl
renamed-by false true true bytes o r is = refl
renamed-by false false true bytes o r is = refl
renamed-by x y false bytes o r is = cc

renamed_part : (part name bytes : List ℕ) (m : Files)
    → renamed part name (with_more part bytes (with_file (part, []) m)) ≡ with_file (name, bytes) (without part m)
renamed_part part name bytes m =
    fun_ext (λ q. renamed-by (bytes_eq q name) (bytes_eq q part) (bytes_eq part part) bytes (m q) (m part) (eq_name part))

pub replaced_by : (part name bytes : List ℕ) (first middle last : Option Files)
    → middle ≡ option_map (with_file (part, [])) first → last ≡ option_map (λ m. renamed part name (with_more part bytes m)) middle
    → last ≡ option_map (λ m. with_file (name, bytes) (without part m)) first
replaced_by part name bytes first middle last p q =
    mapped (with_file (part, [])) (λ m. renamed part name (with_more part bytes m)) (λ m. with_file (name, bytes) (without part m))
    first middle last (renamed_part part name bytes) p q

pub replaced_whole : (name bytes part shown : List ℕ) (first base middle last : Option Files)
    → base ≡ first → shown ≡ part → IsPart name part → middle ≡ option_map (with_file (part, [])) base
    → last ≡ option_map (λ m. renamed shown name (with_more shown bytes m)) middle → Replaced name bytes first last
replaced_whole name bytes part shown first base middle last b e is p q =
    let P : List ℕ → Type 0 = λ s. last ≡ option_map (λ m. renamed s name (with_more s bytes m)) middle in
    let Q : Option Files → Type 0 = λ o. last ≡ option_map (λ m. with_file (name, bytes) (without part m)) o in
    (part, is, subst Q b (replaced_by part name bytes base middle last p (subst P e q)))

pub stays_whole : (name part shown : List ℕ) (first base middle last : Option Files)
    → base ≡ first → shown ≡ part → IsPart name part → middle ≡ option_map (with_file (part, [])) base
    → OthersStay shown middle last → StaysBut name first last
stays_whole name part shown first base middle last b e is p q =
    let P : List ℕ → Type 0 = λ s. OthersStay s middle last in
    (part, is, others_then part first base last (others_same part first base b) (others_then part base middle last (others_file part [] base middle p) (subst P e q)))

-- nothing was made of a part
pub stays_same : (name : List ℕ) (first base last : Option Files) → base ≡ first → last ≡ base → StaysBut name first last
stays_same name first base last b p =
    let part = name ++ codes "." ++ decimal 0 ++ codes ".part" in
    (part, (0, refl), others_same part first last (p ∙ b))
