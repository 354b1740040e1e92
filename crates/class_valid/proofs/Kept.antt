-- What bytes spell is valid: each part of a class.
use Rattle.std.proofs.Common.{◌≡◌, ℕ, zero, suc, ◌+◌, ◌<◌, ◌≤◌, ◌^◌, Bool, true, false, ◌&&◌, ◌||◌, not, cond, List, [], ◌∷◌, ◌++◌, length, Option, Some, None, refl, sym, ap, subst, ◌∙◌, arith, append_assoc, append-nil}
use Rattle.std.specs.Prelude.{nat_lt, ◌==◌}
use Rattle.std.specs.Int.{w16, w32}
use Rattle.std.specs.List.{list_any}
use Rattle.std.proofs.lemmas.Bool.Decides.{nat_tests}
use Rattle.class_pool.specs.Entries.{entry_at, is_utf8, is_class}
use Rattle.class_pool.specs.declared.entry.Entry.{Entry}
use Rattle.class_pool.specs.declared.class.Attribute.{Attribute, out-Attribute, out-roll-Attribute}
use Rattle.class_pool.specs.declared.class.Attribute.TheVariants as attribute
use Rattle.class_pool.specs.declared.class.Attribute.TheVariants.{rolls-Raw, rolls-Coded}
use Rattle.class_pool.specs.declared.class.Attribute.TheOpen.{Attribute-F, Code-F}
use Rattle.class_pool.specs.declared.class.CatchRow.{CatchRow}
use Rattle.class_pool.specs.declared.class.Code.{Code, out-Code, out-roll-Code}
use Rattle.class_pool.specs.declared.class.Member.{Member}
use Rattle.class_grammar.specs.Layout.{Layout, SpellsNumber, Chosen, Turned, yes, no, number, many, ◌>>=◌}
use Rattle.class_grammar.specs.Grammar as grammar
use Rattle.class_grammar.specs.Bytes.{code_bytes}
use Rattle.class_grammar.specs.Valid.{Small, Fits4, TextAt, IsRow, AreRows, AreClasses, RawForm, AreRaw, IsCode, MethodForm, AreOfMethod, IsField, IsMethod, AreFields, AreMethods}
use Rattle.class_valid.proofs.Joined.{checked_value}
use Rattle.class_valid.proofs.Pools.{passed_test}
use Rattle.class_valid.proofs.Attributes.{code_spelled}

pub small_of : (n : ℕ) (bytes : List ℕ) → SpellsNumber w16 n bytes → Small n
small_of n bytes s = omega (arith, s.fits)

pub four_of : (n : ℕ) (bytes : List ℕ) → SpellsNumber w32 n bytes → Fits4 n
four_of n bytes s = omega (arith, s.fits)

-- a number that passed its test
pub checked16 : (test : ℕ → Bool) (n : ℕ) (bytes : List ℕ) → Turned (number w16) (λ (x : ℕ). cond (test x) (Some x) None) n bytes → Small n × (test n ≡ true)
checked16 test n bytes h =
    subst (λ k. Small k × (test k ≡ true)) (checked_value (test h.value) h.value n h.is) (small_of h.value bytes h.first, passed_test (test h.value) h.value n h.is)

text_of : (es : List Entry) (n : ℕ) (bytes : List ℕ) → (grammar.text_index es).Spells n bytes → TextAt es n
text_of es n bytes h = let c = checked16 (λ k. is_utf8 (entry_at es k)) n bytes h in record { small = c.0; is = c.1 }

-- ---- so many

abbrev All_of : {A : Type 0} → (List A → A → Type 0) → List A → List A → Type 0
All_of P found [] = Unit {0}
All_of P found (x ∷ xs) = P found x × All_of P (found ++ x ∷ []) xs

record OneOf {A : Type 0} (P : List A → A → Type 0) (found xs : List A) : Type 0 where
  one : A
  is : xs ≡ one ∷ []
  right : P found one

record Many {A : Type 0} (P : List A → A → Type 0) (n : ℕ) (found ys : List A) : Type 0 where
  xs : List A
  all : ys ≡ found ++ xs
  each : All_of P found xs
  count : length xs ≡ n

many_more : {A : Type 0} (P : List A → A → Type 0) (n : ℕ) (found ys : List A) (x : A) → P found x → Many P n (found ++ x ∷ []) ys → Many P (suc n) found ys
many_more P n found ys x p m = record { xs = x ∷ m.xs; all = m.all ∙ append_assoc found (x ∷ []) m.xs; each = (p, m.each); count = omega (arith, m.count) }

many_kept : {A : Type 0} (P : List A → A → Type 0) (step : List A → Layout (List A)) → ((found xs : List A) (bytes : List ℕ) → (step found).Spells xs bytes → OneOf P found xs) → (n : ℕ) (found ys : List A) (bytes : List ℕ) → (many n found step).Spells ys bytes → Many P n found ys
unfolding many
many_kept P step each zero found ys bytes h = record { xs = []; all = h.is ∙ sym (append-nil found); each = tt; count = refl }
many_kept {A} P step each (suc n) found ys bytes h =
    let first = each found h.value h.front h.first in
    let rest = many_kept P step each n (found ++ h.value) ys h.back h.second in
    many_more P n found ys first.one first.right (subst (λ (w : List A). Many P n (found ++ w) ys) first.is rest)

record Counted {A : Type 0} (P : List A → A → Type 0) (ys : List A) : Type 0 where
  few : Small (length ys)
  each : All_of P [] ys

counted_by : {A : Type 0} (P : List A → A → Type 0) (n : ℕ) (ys : List A) → Small n → Many P n [] ys → Counted P ys
counted_by {A} P n ys lt m =
    subst (Counted P) (sym m.all) (record { few = subst (λ k. Small k) (sym m.count) lt; each = m.each })

counted : {A : Type 0} (P : List A → A → Type 0) (step : List A → Layout (List A)) → ((found xs : List A) (bytes : List ℕ) → (step found).Spells xs bytes → OneOf P found xs) → (ys : List A) (bytes : List ℕ) → (number w16 >>= λ n. many n [] step).Spells ys bytes → Counted P ys
counted P step each ys bytes h = counted_by P h.value ys (small_of h.value h.front h.first) (many_kept P step each h.value [] ys h.back h.second)

-- ---- interfaces

abbrev ClassOf : List Entry → List ℕ → ℕ → Type 0
ClassOf es found n = Small n × (is_class (entry_at es n) ≡ true)

interface_of : (es : List Entry) (found xs : List ℕ) (bytes : List ℕ) → (grammar.interface es).Spells xs bytes → OneOf (ClassOf es) found xs
unfolding grammar.interface
interface_of es found xs bytes h = record { one = h.value; is = h.second.is; right = checked16 (λ k. is_class (entry_at es k)) h.value h.front h.first }

classes_of : (es : List Entry) (found ns : List ℕ) → All_of (ClassOf es) found ns → AreClasses es ns
classes_of es found [] h = tt
classes_of es found (n ∷ ns) h = (h.0, classes_of es (found ++ n ∷ []) ns h.1)

pub interfaces_kept : (es : List Entry) (ns bytes : List ℕ) → (grammar.interfaces es).Spells ns bytes → Small (length ns) × AreClasses es ns
unfolding grammar.interfaces
interfaces_kept es ns bytes h = let c = counted (ClassOf es) (λ found. grammar.interface es) (interface_of es) ns bytes h in (c.few, classes_of es [] ns c.each)

-- ---- attributes

raw_out : (name : ℕ) (bytes : List ℕ) → out-Attribute (attribute.Raw name bytes) ≡ Attribute-F.Raw name bytes
raw_out name bytes = ap out-Attribute (sym (rolls-Raw name bytes)) ∙ out-roll-Attribute (Attribute-F.Raw name bytes)

coded_out : (name : ℕ) (c : Code) → out-Attribute (attribute.Coded name c) ≡ Attribute-F.Coded name c
coded_out name c = ap out-Attribute (sym (rolls-Coded name c)) ∙ out-roll-Attribute (Attribute-F.Coded name c)

abbrev RawOf : List Entry → List Attribute → Attribute → Type 0
RawOf es found a = RawForm es (out-Attribute a)

raw_of : (es : List Entry) (found xs : List Attribute) (bytes : List ℕ) → (grammar.raw es).Spells xs bytes → OneOf (RawOf es) found xs
unfolding grammar.raw
raw_of es found xs bytes h =
    let b = h.second in let c = b.second in
    let fit : Fits4 (length c.value) = subst (λ n. Fits4 n) (sym c.first.len_is) (four_of b.value b.front b.first) in
    record { one = attribute.Raw h.value c.value; is = c.second.is; right = subst (RawForm es) (sym (raw_out h.value c.value)) (text_of es h.value h.front h.first, fit) }

raws_of : (es : List Entry) (found parts : List Attribute) → All_of (RawOf es) found parts → AreRaw es parts
raws_of es found [] h = tt
raws_of es found (a ∷ parts) h = (h.0, raws_of es (found ++ a ∷ []) parts h.1)

pub raws_kept : (es : List Entry) (parts : List Attribute) (bytes : List ℕ) → (grammar.raws es).Spells parts bytes → Small (length parts) × AreRaw es parts
unfolding grammar.raws
raws_kept es parts bytes h = let c = counted (RawOf es) (λ found. grammar.raw es) (raw_of es) parts bytes h in (c.few, raws_of es [] parts c.each)

abbrev RowOf : List CatchRow → CatchRow → Type 0
RowOf found r = IsRow r

row_of : (found xs : List CatchRow) (bytes : List ℕ) → grammar.row.Spells xs bytes → OneOf RowOf found xs
unfolding grammar.row
row_of found xs bytes h =
    let b = h.second in let c = b.second in let d = c.second in
    record {
      one = record { start = h.value; end = b.value; handler = c.value; caught = d.value };
      is = d.second.is;
      right = record { start = small_of h.value h.front h.first; end = small_of b.value b.front b.first; handler = small_of c.value c.front c.first; caught = small_of d.value d.front d.first };
    }

rows_of : (found rows : List CatchRow) → All_of RowOf found rows → AreRows rows
rows_of found [] h = tt
rows_of found (r ∷ rows) h = (h.0, rows_of (found ++ r ∷ []) rows h.1)

record CodeRight (es : List Entry) (d : Code-F Attribute Code) : Type 0 where
  stack : Small d.max_stack
  locals : Small d.max_locals
  some : 1 ≤ length d.code
  few : length d.code < 65536
  rows : AreRows d.catches
  few_rows : Small (length d.catches)
  raws : AreRaw es d.attributes
  few_raws : Small (length d.attributes)

code_length : (n : ℕ) → (not (n == 0) && nat_lt n 65536) ≡ true → (1 ≤ n) × (n < 65536)
code_length n e = (grind (arith, nat_tests, e), grind (arith, nat_tests, e))

record Long (n : ℕ) : Type 0 where
  some : 1 ≤ n
  few : n < 65536

long_of : (n : ℕ) (bytes : List ℕ) → Turned (number w32) (λ (x : ℕ). cond (not (x == 0) && nat_lt x 65536) (Some x) None) n bytes → Long n
long_of n bytes h =
    let l = code_length h.value (passed_test (not (h.value == 0) && nat_lt h.value 65536) h.value n h.is) in
    subst Long (checked_value (not (h.value == 0) && nat_lt h.value 65536) h.value n h.is) (record { some = l.0; few = l.1 })

code_parts : (es : List Entry) (c : Code) (bytes : List ℕ) → (grammar.code es).Spells c bytes → CodeRight es (out-Code c)
unfolding grammar.code
code_parts es c bytes h =
    let b = h.second in let d = b.second in let e = d.second in let f = e.second in let g = f.second in let k = g.second in
    let made : Code-F Attribute Code = record { max_stack = h.value; max_locals = b.value; code = e.value; catches = g.value; attributes = k.value } in
    let is : out-Code c ≡ made = ap out-Code k.second.is ∙ out-roll-Code made in
    let m = many_kept RowOf (λ found. grammar.row) row_of f.value [] g.value g.front g.first in
    let rows = counted_by RowOf f.value g.value (small_of f.value f.front f.first) m in
    let others = raws_kept es k.value k.front k.first in
    let long : Long (length e.value) = subst Long (sym e.first.len_is) (long_of d.value d.front d.first) in
    subst (CodeRight es) (sym is) (record { stack = small_of h.value h.front h.first; locals = small_of b.value b.front b.first; some = long.some; few = long.few; rows = rows_of [] g.value rows.each; few_rows = rows.few; raws = others.1; few_raws = others.0 })

code_kept : (es : List Entry) (c : Code) (bytes : List ℕ) → Fits4 (length bytes) → (grammar.code es).Spells c bytes → IsCode es c
code_kept es c bytes fit h =
    let d = code_parts es c bytes h in
    record { stack = d.stack; locals = d.locals; some = d.some; few = d.few; rows = d.rows; few_rows = d.few_rows; raws = d.raws; few_raws = d.few_raws; all = subst (λ w. Fits4 (length w)) (code_spelled es c bytes h) fit }

-- ---- attributes of a method

abbrev PartOf : List Entry → List Attribute → Attribute → Type 0
PartOf es found a = MethodForm es (list_any grammar.is_coded found) (out-Attribute a)

code_chosen : (es : List Entry) (seen : Bool) (c : Code) (bytes : List ℕ) (f : Rattle.class_pool.specs.declared.fault.ClassFault.ClassFault) → Fits4 (length bytes) → Chosen seen (Rattle.class_grammar.specs.Layout.refused f) (grammar.code es) c bytes → (seen ≡ false) × IsCode es c
code_chosen es seen c bytes f fit (yes e s) = absurd s
code_chosen es seen c bytes f fit (no e s) = (e, code_kept es c bytes fit s)

coded_of : (es : List Entry) (found xs : List Attribute) (name len : ℕ) (bytes : List ℕ) → TextAt es name → Fits4 len → grammar.is_code_text (entry_at es name) ≡ true → (grammar.coded es (list_any grammar.is_coded found) name len).Spells xs bytes → OneOf (PartOf es) found xs
unfolding grammar.coded
coded_of es found xs name len bytes t fit e h =
    let g = code_chosen es (list_any grammar.is_coded found) h.value h.front _ (subst (λ n. Fits4 n) (sym h.first.fills) fit) h.first.first in
    record { one = attribute.Coded name h.value; is = h.second.is; right = subst (MethodForm es (list_any grammar.is_coded found)) (sym (coded_out name h.value)) (t, e, g.0, g.1) }

plain_of : (es : List Entry) (found xs : List Attribute) (name len : ℕ) (bytes : List ℕ) → TextAt es name → Fits4 len → grammar.is_code_text (entry_at es name) ≡ false → (grammar.plain name len).Spells xs bytes → OneOf (PartOf es) found xs
unfolding grammar.plain
plain_of es found xs name len bytes t fit e h =
    record { one = attribute.Raw name h.value; is = h.second.is; right = subst (MethodForm es (list_any grammar.is_coded found)) (sym (raw_out name h.value)) (t, e, subst (λ n. Fits4 n) (sym h.first.len_is) fit) }

part_by : (es : List Entry) (found xs : List Attribute) (name len : ℕ) (bytes : List ℕ) → TextAt es name → Fits4 len → Chosen (grammar.is_code_text (entry_at es name)) (grammar.coded es (list_any grammar.is_coded found) name len) (grammar.plain name len) xs bytes → OneOf (PartOf es) found xs
part_by es found xs name len bytes t fit (yes e s) = coded_of es found xs name len bytes t fit e s
part_by es found xs name len bytes t fit (no e s) = plain_of es found xs name len bytes t fit e s

part_of : (es : List Entry) (found xs : List Attribute) (bytes : List ℕ) → (grammar.attribute_of es (list_any grammar.is_coded found)).Spells xs bytes → OneOf (PartOf es) found xs
unfolding grammar.attribute_of
part_of es found xs bytes h =
    let b = h.second in
    part_by es found xs h.value b.value b.back (text_of es h.value h.front h.first) (four_of b.value b.front b.first) b.second

parts_of : (es : List Entry) (found parts : List Attribute) → All_of (PartOf es) found parts → AreOfMethod es found parts
parts_of es found [] h = tt
parts_of es found (a ∷ parts) h = (h.0, parts_of es (found ++ a ∷ []) parts h.1)

attributes_kept : (es : List Entry) (parts : List Attribute) (bytes : List ℕ) → (grammar.attributes es).Spells parts bytes → Small (length parts) × AreOfMethod es [] parts
unfolding grammar.attributes
attributes_kept es parts bytes h = let c = counted (PartOf es) (λ found. grammar.attribute_of es (list_any grammar.is_coded found)) (part_of es) parts bytes h in (c.few, parts_of es [] parts c.each)

-- ---- members

abbrev FieldOf : List Entry → List Member → Member → Type 0
FieldOf es found m = IsField es m

field_of : (es : List Entry) (found xs : List Member) (bytes : List ℕ) → (grammar.field es).Spells xs bytes → OneOf (FieldOf es) found xs
unfolding grammar.field
field_of es found xs bytes h =
    let b = h.second in let c = b.second in let d = c.second in
    let parts = raws_kept es d.value d.front d.first in
    record {
      one = record { flags = record { bits = h.value }; name = b.value; descriptor = c.value; attributes = d.value };
      is = d.second.is;
      right = record { flags = small_of h.value h.front h.first; name = text_of es b.value b.front b.first; descriptor = text_of es c.value c.front c.first; raws = parts.1; few = parts.0 };
    }

fields_of : (es : List Entry) (found ms : List Member) → All_of (FieldOf es) found ms → AreFields es ms
fields_of es found [] h = tt
fields_of es found (m ∷ ms) h = (h.0, fields_of es (found ++ m ∷ []) ms h.1)

pub fields_kept : (es : List Entry) (ms : List Member) (bytes : List ℕ) → (grammar.fields es).Spells ms bytes → Small (length ms) × AreFields es ms
unfolding grammar.fields
fields_kept es ms bytes h = let c = counted (FieldOf es) (λ found. grammar.field es) (field_of es) ms bytes h in (c.few, fields_of es [] ms c.each)

abbrev MethodOf : List Entry → List Member → Member → Type 0
MethodOf es found m = IsMethod es m

method_of : (es : List Entry) (found xs : List Member) (bytes : List ℕ) → (grammar.method es).Spells xs bytes → OneOf (MethodOf es) found xs
unfolding grammar.method
method_of es found xs bytes h =
    let b = h.second in let c = b.second in let d = c.second in
    let parts = attributes_kept es d.value d.front d.first in
    record {
      one = record { flags = record { bits = h.value }; name = b.value; descriptor = c.value; attributes = d.value };
      is = d.second.is;
      right = record { flags = small_of h.value h.front h.first; name = text_of es b.value b.front b.first; descriptor = text_of es c.value c.front c.first; parts = parts.1; few = parts.0 };
    }

methods_of : (es : List Entry) (found ms : List Member) → All_of (MethodOf es) found ms → AreMethods es ms
methods_of es found [] h = tt
methods_of es found (m ∷ ms) h = (h.0, methods_of es (found ++ m ∷ []) ms h.1)

pub methods_kept : (es : List Entry) (ms : List Member) (bytes : List ℕ) → (grammar.methods es).Spells ms bytes → Small (length ms) × AreMethods es ms
unfolding grammar.methods
methods_kept es ms bytes h = let c = counted (MethodOf es) (λ found. grammar.method es) (method_of es) ms bytes h in (c.few, methods_of es [] ms c.each)
