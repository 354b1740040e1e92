-- Numbers as words spell them.
use Rattle.std.proofs.Common.{◌≡◌, ◌∙◌, ap, refl, sym, ℕ, zero, suc, ◌<◌, ◌≤◌, ◌^◌, Bool, true, false, ◌⊎◌, inl, inr, List, bytes_eq, Some, None, Result, Ok, Err, arith}
use Rattle.std.proofs.lemmas.Bool.{cases_eq}
use Rattle.std.proofs.lemmas.Fmt.{decimal_injective, parse-decimal}
use Rattle.std.proofs.lemmas.Slice.Eq.{bytes_eq-Decides}
use Rattle.std.specs.Fmt.{decimal}
use Rattle.std.specs.Str.Parse.{ParsesUnsigned}
use Rattle.command_words.specs.Numbers.{number_to}

truth : (b : Bool) → (b ≡ true) ⊎ (b ≡ false)
truth true = inl refl
truth false = inr refl

this : (limit : ℕ) (word : List ℕ) → bytes_eq word (decimal (suc limit)) ≡ true → number_to (suc limit) word ≡ Some (suc limit)
unfolding number_to
this limit word is = rw is refl

other : (limit : ℕ) (word : List ℕ) → bytes_eq word (decimal (suc limit)) ≡ false → number_to (suc limit) word ≡ number_to limit word
unfolding number_to
other limit word is = rw is refl

none : (word : List ℕ) → number_to zero word ≡ None
unfolding number_to
none word = refl

pub spelled : (limit n : ℕ) → 1 ≤ n → n ≤ limit → limit ≤ 4294967295 → number_to limit (decimal n) ≡ Some n
spelled zero n low high fits = absurd (omega (arith, low, high))
spelled (suc limit) n low high fits = elim (truth (bytes_eq (decimal n) (decimal (suc limit)))) [
  | inl t ↦
      let e : n ≡ suc limit = decimal_injective n (suc limit) (omega (arith, high, fits)) (omega (arith, fits)) ((bytes_eq-Decides (decimal n) (decimal (suc limit))).0 t) in
      this limit (decimal n) t ∙ ap Some (sym e)
  | inr f ↦ elim (cases_eq n (suc limit)) [
    | inl e ↦ absurd (let t : bytes_eq (decimal n) (decimal (suc limit)) ≡ true = (bytes_eq-Decides (decimal n) (decimal (suc limit))).1 (ap decimal e) in cc)
    | inr ne ↦ other limit (decimal n) f ∙ spelled limit n low (omega (arith, high, ne)) (omega (arith, fits))
  ]
]

pub spells : (limit n : ℕ) (word : List ℕ) → number_to limit word ≡ Some n → (1 ≤ n) × (n ≤ limit) × (word ≡ decimal n)
spells zero n word is = absurd (let e = none word in cc)
spells (suc limit) n word is = elim (truth (bytes_eq word (decimal (suc limit)))) [
  | inl t ↦
      let first = this limit word t in
      let e : n ≡ suc limit = cc in
      (omega (arith, e), omega (arith, e), (bytes_eq-Decides word (decimal (suc limit))).0 t ∙ ap decimal (sym e))
  | inr f ↦
      let rest = spells limit n word (sym (other limit word f) ∙ is) in
      (rest.0, omega (arith, rest.1), rest.2)
]

absent : (limit : ℕ) (word : List ℕ) → ((n : ℕ) → 1 ≤ n → n ≤ limit → word ≡ decimal n → ⊥) → number_to limit word ≡ None
absent zero word apart = none word
absent (suc limit) word apart = elim (truth (bytes_eq word (decimal (suc limit)))) [
  | inl t ↦ absurd (apart (suc limit) (omega arith) (omega arith) ((bytes_eq-Decides word (decimal (suc limit))).0 t))
  | inr f ↦ other limit word f ∙ absent limit word (λ n low high. apart n low (omega (arith, high)))
]

-- what a word parses as that a number spells
parsed : {E : Type 0} (n : ℕ) (word : List ℕ) (r : Result ℕ E) → n < 2 ^ 32 → ParsesUnsigned 32 10 word r → word ≡ decimal n → r ≡ Ok n
parsed n word r fits parses is = parse-decimal 32 n word r fits (omega (arith, fits)) is parses

pub unparsed : {E : Type 0} (limit : ℕ) (word : List ℕ) (fault : E) → limit < 2 ^ 32 → ParsesUnsigned 32 10 word (Err fault) → number_to limit word ≡ None
unparsed {E} limit word fault fits parses =
    absent limit word (λ n low high is. let e : ◌≡◌ {A = Result ℕ E} (Err fault) (Ok n) = parsed n word (Err fault) (omega (arith, high, fits)) parses is in cc)

-- a word that parses as a number, which is too small, too large or spelled in another way
pub unspelled : {E : Type 0} (limit number : ℕ) (word : List ℕ) (r : Result ℕ E) → limit < 2 ^ 32 → r ≡ Ok number
    → (1 ≤ number → number ≤ limit → word ≡ decimal number → ⊥) → ParsesUnsigned 32 10 word r → number_to limit word ≡ None
unspelled {E} limit number word r fits was apart parses =
    absent limit word (λ n low high is.
    let e : r ≡ Ok n = parsed n word r (omega (arith, high, fits)) parses is in
    let q : n ≡ number = cc in
    apart (omega (arith, q, low)) (omega (arith, q, high)) (is ∙ ap decimal q))

pub shown : (limit number : ℕ) (word digits : List ℕ) → digits ≡ decimal number → 1 ≤ number → number ≤ limit → limit < 2 ^ 32
    → bytes_eq digits word ≡ true → Some number ≡ number_to limit word
shown limit number word digits are low high fits same =
    let e : digits ≡ word = (bytes_eq-Decides digits word).0 same in
    sym (ap (number_to limit) (sym e ∙ are) ∙ spelled limit number low high (omega (arith, fits)))

pub hidden : {E : Type 0} (limit number : ℕ) (word digits : List ℕ) (r : Result ℕ E) → digits ≡ decimal number → limit < 2 ^ 32 → r ≡ Ok number
    → bytes_eq digits word ≡ false → ParsesUnsigned 32 10 word r → None ≡ number_to limit word
hidden limit number word digits r are fits was differs parses =
    sym (unspelled limit number word r fits was (λ low high is.
    let t : bytes_eq digits word ≡ true = (bytes_eq-Decides digits word).1 (are ∙ sym is) in
    cc) parses)
