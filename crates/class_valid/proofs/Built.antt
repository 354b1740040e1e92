-- The bytes of a valid class spell it.
use Rattle.std.proofs.Common.{◌≡◌, ℕ, zero, suc, ◌+◌, ◌*◌, ◌/◌, ◌%◌, ◌<◌, ◌≤◌, ◌^◌, Bool, true, false, ◌||◌, ◌&&◌, not, cond, List, [], ◌∷◌, ◌++◌, length, Option, Some, None, refl, sym, ap, subst, ◌∙◌, arith, append_assoc, append-nil, ltb, eqb}
use Rattle.std.specs.Prelude.{nat_lt, ◌==◌}
use Rattle.std.specs.Int.{Width, w16, w32, to_be_bytes, byte_len}
use Rattle.std.specs.List.{flat_map, list_any}
use Rattle.std.proofs.lemmas.Bool.Decides.{nat_tests}
use Rattle.std.proofs.lemmas.Bool.{lt-ltb}
use Rattle.class_pool.specs.Entries.{entry_at, is_utf8, is_class, bad}
use Rattle.class_pool.specs.declared.entry.Entry.{Entry}
use Rattle.class_pool.specs.declared.class.Attribute.{Attribute, out-Attribute, roll-Attribute}
use Rattle.class_pool.specs.declared.class.Attribute.TheVariants as attribute
use Rattle.class_pool.specs.declared.class.Attribute.TheOpen.{Attribute-F, Code-F}
use Rattle.class_pool.specs.declared.class.Code.{Code, out-Code, roll-Code}
use Rattle.class_pool.specs.declared.class.CatchRow.{CatchRow}
use Rattle.class_pool.specs.declared.class.Member.{Member}
use Rattle.class_pool.specs.declared.class.Class.{Class}
use Rattle.class_pool.specs.declared.fault.ClassFault.{ClassFault}
use Rattle.class_pool.specs.declared.fault.ClassFault.TheVariants as fault
use Rattle.class_grammar.specs.Layout.{refused, no, yes, Layout, Both, number, run, pure, checked, turned, choose, inside, many, ◌>>=◌, SpellsNumber, SpellsRun, Chosen, Turned, Inside}
use Rattle.class_grammar.specs.Grammar as grammar
use Rattle.class_grammar.specs.Grammar.{text_index, class_index, parent_index}
use Rattle.class_pool.specs.declared.class.Attribute.{fold-roll-Attribute, roll-out-Attribute}
use Rattle.class_pool.specs.declared.class.Attribute.TheVariants.{rolls-Raw, rolls-Coded}
use Rattle.class_pool.specs.declared.class.Code.{roll-out-Code}
use Rattle.class_valid.proofs.Codes.{code_is, fields_bytes}
use Rattle.class_grammar.specs.Bytes.{attribute_step, code_step, u2, u4, counted, row_bytes, interfaces_bytes, member_bytes, members_bytes, attributes_bytes, attribute_bytes, code_bytes, pool_bytes, class_bytes}
use Rattle.class_grammar.specs.Valid.{Small, Fits4, TextAt, IsRow, AreRows, AreClasses, RawForm, AreRaw, IsCode, MethodForm, AreOfMethod, IsField, IsMethod, AreFields, AreMethods, IsPool, IsValid}

-- ---- numbers

small_is : (n : ℕ) → n < 65536 → u2 n ≡ to_be_bytes w16 n
small_is n lt = let same : n % 65536 ≡ n = omega (arith, lt) in ap (to_be_bytes w16) same

pub two : (n : ℕ) → Small n → (number w16).Spells n (u2 n)
two n lt = record { fits = lt; bytes_are = small_is n lt }

four_is : (n : ℕ) → n < 0x1_0000_0000 → u4 n ≡ to_be_bytes w32 n
four_is n lt = let same : n % 0x1_0000_0000 ≡ n = omega (arith, lt) in ap (to_be_bytes w32) same

pub four : (n : ℕ) → Fits4 n → (number w32).Spells n (u4 n)
four n lt = record { fits = lt; bytes_are = four_is n lt }

pub runs : (bytes : List ℕ) → (run (length bytes)).Spells bytes bytes
runs bytes = record { len_is = refl; bytes_are = refl }

-- ---- one behind the other

pub behind : {A B : Type 0} (L : Layout A) (k : A → Layout B) (x : A) (y : B) (a b : List ℕ) → L.Spells x a → (k x).Spells y b → (L >>= k).Spells y (a ++ b)
behind L k x y a b p q = record { value = x; front = a; back = b; parts = refl; first = p; second = q }

pub last : {A B : Type 0} (L : Layout A) (f : A → B) (x : A) (a : List ℕ) → L.Spells x a → (L >>= λ x. pure (f x)).Spells (f x) a
last L f x a p = record { value = x; front = a; back = []; parts = sym (append-nil a); first = p; second = record { is = refl; none = refl } }

pub passes : {A : Type 0} (L : Layout A) (test : A → Bool) (refuse : ℕ → A → ClassFault) (x : A) (a : List ℕ) → L.Spells x a → test x ≡ true → (checked L test refuse).Spells x a
passes L test refuse x a p e = record { value = x; first = p; is = rw e refl }

-- ---- so many

abbrev Each : {A : Type 0} → (List A → Layout (List A)) → (A → List ℕ) → List A → List A → Type 0
Each step bytes found [] = Unit {0}
Each step bytes found (x ∷ xs) = (step found).Spells (x ∷ []) (bytes x) × Each step bytes (found ++ x ∷ []) xs

many_from : {A : Type 0} (step : List A → Layout (List A)) (bytes : A → List ℕ) (found xs : List A) → Each step bytes found xs → (many (length xs) found step).Spells (found ++ xs) (flat_map bytes xs)
unfolding many
many_from step bytes found [] h = record { is = append-nil found; none = refl }
many_from {A} step bytes found (x ∷ xs) h =
    behind (step found) (λ ys. many (length xs) (found ++ ys) step) (x ∷ []) (found ++ x ∷ xs) (bytes x) (flat_map bytes xs) h.0
    (subst (λ (w : List A). (many (length xs) (found ++ x ∷ []) step).Spells w (flat_map bytes xs)) (append_assoc found (x ∷ []) xs) (many_from step bytes (found ++ x ∷ []) xs h.1))

-- a count, and so many
pub counts : {A : Type 0} (step : List A → Layout (List A)) (bytes : A → List ℕ) (xs : List A) → Small (length xs) → Each step bytes [] xs → (number w16 >>= λ n. many n [] step).Spells xs (u2 (length xs) ++ flat_map bytes xs)
counts step bytes xs few h = behind (number w16) (λ n. many n [] step) (length xs) xs (u2 (length xs)) (flat_map bytes xs) (two (length xs) few) (many_from step bytes [] xs h)

-- ---- indices

pub text_at : (es : List Entry) (n : ℕ) → TextAt es n → (text_index es).Spells n (u2 n)
text_at es n h = passes (number w16) (λ n. is_utf8 (entry_at es n)) (λ at n. fault.Shape at) n (u2 n) (two n h.small) h.is

class_at : (es : List Entry) (n : ℕ) → Small n → is_class (entry_at es n) ≡ true → (class_index es).Spells n (u2 n)
class_at es n lt is = passes (number w16) (λ n. is_class (entry_at es n)) (λ at n. fault.Shape at) n (u2 n) (two n lt) is

parent_at : (es : List Entry) (n : ℕ) → Small n → (n == 0 || is_class (entry_at es n)) ≡ true → (parent_index es).Spells n (u2 n)
parent_at es n lt is = passes (number w16) (λ n. n == 0 || is_class (entry_at es n)) (λ at n. fault.Shape at) n (u2 n) (two n lt) is

each_interface : (es : List Entry) (found ns : List ℕ) → AreClasses es ns → Each (λ found. grammar.interface es) u2 found ns
unfolding grammar.interface
each_interface es found [] h = tt
each_interface es found (n ∷ ns) h = (last (class_index es) (λ n. n ∷ []) n (u2 n) (class_at es n h.0.0 h.0.1), each_interface es (found ++ n ∷ []) ns h.1)

pub interfaces_spelled : (es : List Entry) (ns : List ℕ) → Small (length ns) → AreClasses es ns → (grammar.interfaces es).Spells ns (interfaces_bytes ns)
unfolding grammar.interfaces
interfaces_spelled es ns few h = counts (λ found. grammar.interface es) u2 ns few (each_interface es [] ns h)

-- ---- attributes

raw_bytes : (name : ℕ) (bytes : List ℕ) → attribute_bytes (attribute.Raw name bytes) ≡ u2 name ++ counted bytes
raw_bytes name bytes = ap attribute_bytes (sym (rolls-Raw name bytes)) ∙ fold-roll-Attribute (List ℕ) (List ℕ) attribute_step code_step (Attribute-F.Raw name bytes)

coded_bytes : (name : ℕ) (c : Code) → attribute_bytes (attribute.Coded name c) ≡ u2 name ++ counted (code_bytes c)
coded_bytes name c = ap attribute_bytes (sym (rolls-Coded name c)) ∙ fold-roll-Attribute (List ℕ) (List ℕ) attribute_step code_step (Attribute-F.Coded name c)

abbrev Spelled : Layout (List Attribute) → Attribute → Type 0
Spelled L a = L.Spells (a ∷ []) (attribute_bytes a)

raw_made : (es : List Entry) (name : ℕ) (bytes : List ℕ) → TextAt es name → Fits4 (length bytes) → Spelled (grammar.raw es) (attribute.Raw name bytes)
unfolding grammar.raw
raw_made es name bytes t fit =
    let rest : Layout (List Attribute) = (number w32 >>= λ len. run len >>= λ bytes. pure (attribute.Raw name bytes ∷ [])) in
    subst (λ (w : List ℕ). (grammar.raw es).Spells (attribute.Raw name bytes ∷ []) w) (sym (raw_bytes name bytes))
    (behind (text_index es) (λ name. number w32 >>= λ len. run len >>= λ bytes. pure (attribute.Raw name bytes ∷ [])) name (attribute.Raw name bytes ∷ []) (u2 name) (counted bytes) (text_at es name t)
    (behind (number w32) (λ len. run len >>= λ bytes. pure (attribute.Raw name bytes ∷ [])) (length bytes) (attribute.Raw name bytes ∷ []) (u4 (length bytes)) bytes (four (length bytes) fit)
    (last (run (length bytes)) (λ bytes. attribute.Raw name bytes ∷ []) bytes bytes (runs bytes))))

raw_by : (es : List Entry) (a : Attribute) (F : Attribute-F Attribute Code) → roll-Attribute F ≡ a → RawForm es F → Spelled (grammar.raw es) a
raw_by es a (Attribute-F.Raw name bytes) e h = subst (Spelled (grammar.raw es)) (sym (rolls-Raw name bytes) ∙ e) (raw_made es name bytes h.0 h.1)
raw_by es a (Attribute-F.Coded name c) e h = absurd h

each_raw : (es : List Entry) (found parts : List Attribute) → AreRaw es parts → Each (λ found. grammar.raw es) attribute_bytes found parts
each_raw es found [] h = tt
each_raw es found (a ∷ parts) h = (raw_by es a (out-Attribute a) (roll-out-Attribute a) h.0, each_raw es (found ++ a ∷ []) parts h.1)

pub raws_spelled : (es : List Entry) (parts : List Attribute) → Small (length parts) → AreRaw es parts → (grammar.raws es).Spells parts (attributes_bytes parts)
unfolding grammar.raws
raws_spelled es parts few h = counts (λ found. grammar.raw es) attribute_bytes parts few (each_raw es [] parts h)

-- ---- code

abbrev row_of : ℕ → ℕ → ℕ → ℕ → CatchRow
row_of a b c d = record { start = a; end = b; handler = c; caught = d }

row_made : (r : CatchRow) → IsRow r → grammar.row.Spells (r ∷ []) (row_bytes r)
unfolding grammar.row
row_made r h =
    behind (number w16) (λ a. number w16 >>= λ b. number w16 >>= λ c. number w16 >>= λ d. pure (row_of a b c d ∷ [])) r.start (r ∷ []) (u2 r.start) (u2 r.end ++ (u2 r.handler ++ u2 r.caught)) (two r.start h.start)
    (behind (number w16) (λ b. number w16 >>= λ c. number w16 >>= λ d. pure (row_of r.start b c d ∷ [])) r.end (r ∷ []) (u2 r.end) (u2 r.handler ++ u2 r.caught) (two r.end h.end)
    (behind (number w16) (λ c. number w16 >>= λ d. pure (row_of r.start r.end c d ∷ [])) r.handler (r ∷ []) (u2 r.handler) (u2 r.caught) (two r.handler h.handler)
    (last (number w16) (λ d. row_of r.start r.end r.handler d ∷ []) r.caught (u2 r.caught) (two r.caught h.caught))))

each_row : (found rows : List CatchRow) → AreRows rows → Each (λ found. grammar.row) row_bytes found rows
each_row found [] h = tt
each_row found (r ∷ rows) h = (row_made r h.0, each_row (found ++ r ∷ []) rows h.1)

is_code_length : (n : ℕ) → 1 ≤ n → n < 65536 → (not (n == 0) && nat_lt n 65536) ≡ true
is_code_length n some few = grind (arith, nat_tests)

abbrev CodeParts : Type 0
CodeParts = Code-F Attribute Code

code_made : (es : List Entry) (d : CodeParts) → Small d.max_stack → Small d.max_locals → 1 ≤ length d.code → length d.code < 65536 → AreRows d.catches → Small (length d.catches) → AreRaw es d.attributes → Small (length d.attributes) → (grammar.code es).Spells (roll-Code d) (fields_bytes d)
unfolding grammar.code
code_made es d stack locals some few rows few_rows raws few_raws =
    let made : ℕ → ℕ → List ℕ → List CatchRow → List Attribute → Code = λ s l b r o. roll-Code (record { max_stack = s; max_locals = l; code = b; catches = r; attributes = o }) in
    let rows_bytes = u2 (length d.catches) ++ flat_map row_bytes d.catches in
    let tail = rows_bytes ++ attributes_bytes d.attributes in
    let body = counted d.code ++ tail in
    let others = last (grammar.raws es) (λ o. made d.max_stack d.max_locals d.code d.catches o) d.attributes (attributes_bytes d.attributes) (raws_spelled es d.attributes few_raws raws) in
    let catches = behind (many (length d.catches) [] (λ found. grammar.row)) (λ r. grammar.raws es >>= λ o. pure (made d.max_stack d.max_locals d.code r o)) d.catches (roll-Code d) (flat_map row_bytes d.catches) (attributes_bytes d.attributes)
    (many_from (λ found. grammar.row) row_bytes [] d.catches (each_row [] d.catches rows)) others in
    let count = behind (number w16) (λ n. many n [] (λ found. grammar.row) >>= λ r. grammar.raws es >>= λ o. pure (made d.max_stack d.max_locals d.code r o)) (length d.catches) (roll-Code d) (u2 (length d.catches)) (flat_map row_bytes d.catches ++ attributes_bytes d.attributes)
    (two (length d.catches) few_rows) catches in
    let ran = behind (run (length d.code)) (λ b. number w16 >>= λ n. many n [] (λ found. grammar.row) >>= λ r. grammar.raws es >>= λ o. pure (made d.max_stack d.max_locals b r o)) d.code (roll-Code d) d.code (u2 (length d.catches) ++ (flat_map row_bytes d.catches ++ attributes_bytes d.attributes)) (runs d.code) count in
    let sized = behind (checked (number w32) (λ n. not (n == 0) && nat_lt n 65536) (λ at n. fault.Shape at)) (λ len. run len >>= λ b. number w16 >>= λ n. many n [] (λ found. grammar.row) >>= λ r. grammar.raws es >>= λ o. pure (made d.max_stack d.max_locals b r o)) (length d.code) (roll-Code d) (u4 (length d.code))
    (d.code ++ (u2 (length d.catches) ++ (flat_map row_bytes d.catches ++ attributes_bytes d.attributes)))
    (passes (number w32) (λ n. not (n == 0) && nat_lt n 65536) (λ at n. fault.Shape at) (length d.code) (u4 (length d.code)) (four (length d.code) (omega (arith, few))) (is_code_length (length d.code) some few)) ran in
    let whole = behind (number w16) (λ s. number w16 >>= λ l. checked (number w32) (λ n. not (n == 0) && nat_lt n 65536) (λ at n. fault.Shape at) >>= λ len. run len >>= λ b. number w16 >>= λ n. many n [] (λ found. grammar.row) >>= λ r. grammar.raws es >>= λ o. pure (made s l b r o)) d.max_stack (roll-Code d) (u2 d.max_stack)
    (u2 d.max_locals ++ (u4 (length d.code) ++ (d.code ++ (u2 (length d.catches) ++ (flat_map row_bytes d.catches ++ attributes_bytes d.attributes))))) (two d.max_stack stack)
    (behind (number w16) (λ l. checked (number w32) (λ n. not (n == 0) && nat_lt n 65536) (λ at n. fault.Shape at) >>= λ len. run len >>= λ b. number w16 >>= λ n. many n [] (λ found. grammar.row) >>= λ r. grammar.raws es >>= λ o. pure (made d.max_stack l b r o)) d.max_locals (roll-Code d) (u2 d.max_locals)
    (u4 (length d.code) ++ (d.code ++ (u2 (length d.catches) ++ (flat_map row_bytes d.catches ++ attributes_bytes d.attributes)))) (two d.max_locals locals) sized) in
    let same : u4 (length d.code) ++ (d.code ++ (u2 (length d.catches) ++ (flat_map row_bytes d.catches ++ attributes_bytes d.attributes))) ≡ body =
    ap (λ (w : List ℕ). u4 (length d.code) ++ (d.code ++ w)) (sym (append_assoc (u2 (length d.catches)) (flat_map row_bytes d.catches) (attributes_bytes d.attributes))) ∙ sym (append_assoc (u4 (length d.code)) d.code tail) in
    subst (λ (w : List ℕ). (grammar.code es).Spells (roll-Code d) (u2 d.max_stack ++ (u2 d.max_locals ++ w))) same whole

pub code_spelled : (es : List Entry) (c : Code) → IsCode es c → (grammar.code es).Spells c (code_bytes c)
code_spelled es c h =
    let d : CodeParts = out-Code c in
    subst (λ (w : List ℕ). (grammar.code es).Spells c w) (sym (code_is c)) (subst (λ (k : Code). (grammar.code es).Spells k (fields_bytes d)) (roll-out-Code c) (code_made es d h.stack h.locals h.some h.few h.rows h.few_rows h.raws h.few_raws))

-- ---- attributes of a method

coded_body : (es : List Entry) (name : ℕ) (c : Code) → IsCode es c → (grammar.coded es false name (length (code_bytes c))).Spells (attribute.Coded name c ∷ []) (code_bytes c)
unfolding grammar.coded
coded_body es name c h =
    last (inside (length (code_bytes c)) (choose false (refused fault.Magic) (grammar.code es)) (λ at. fault.Shape at)) (λ c. attribute.Coded name c ∷ []) c (code_bytes c) (record { fills = refl; first = no refl (code_spelled es c h) })

plain_body : (name : ℕ) (bytes : List ℕ) → (grammar.plain name (length bytes)).Spells (attribute.Raw name bytes ∷ []) bytes
unfolding grammar.plain
plain_body name bytes = last (run (length bytes)) (λ bytes. attribute.Raw name bytes ∷ []) bytes bytes (runs bytes)

attribute_made : (es : List Entry) (seen : Bool) (name : ℕ) (a : Attribute) (content : List ℕ) → TextAt es name → Fits4 (length content) → (grammar.attribute_body es seen name (length content)).Spells (a ∷ []) content → (grammar.attribute_of es seen).Spells (a ∷ []) (u2 name ++ counted content)
unfolding grammar.attribute_of
attribute_made es seen name a content t fit body =
    behind (text_index es) (λ name. number w32 >>= λ len. grammar.attribute_body es seen name len) name (a ∷ []) (u2 name) (counted content) (text_at es name t)
    (behind (number w32) (λ len. grammar.attribute_body es seen name len) (length content) (a ∷ []) (u4 (length content)) content (four (length content) fit) body)

attribute_by : (es : List Entry) (seen : Bool) (a : Attribute) (F : Attribute-F Attribute Code) → roll-Attribute F ≡ a → MethodForm es seen F → Spelled (grammar.attribute_of es seen) a
attribute_by es seen a (Attribute-F.Raw name bytes) e h =
    subst (Spelled (grammar.attribute_of es seen)) (sym (rolls-Raw name bytes) ∙ e)
    (subst (λ (w : List ℕ). (grammar.attribute_of es seen).Spells (attribute.Raw name bytes ∷ []) w) (sym (raw_bytes name bytes))
    (attribute_made es seen name (attribute.Raw name bytes) bytes h.0 h.2 (no h.1 (plain_body name bytes))))
attribute_by es seen a (Attribute-F.Coded name c) e h =
    subst (Spelled (grammar.attribute_of es seen)) (sym (rolls-Coded name c) ∙ e)
    (subst (λ (w : List ℕ). (grammar.attribute_of es seen).Spells (attribute.Coded name c ∷ []) w) (sym (coded_bytes name c))
    (attribute_made es seen name (attribute.Coded name c) (code_bytes c) h.0 h.3.all (yes h.1 (subst (λ (b : Bool). (grammar.coded es b name (length (code_bytes c))).Spells (attribute.Coded name c ∷ []) (code_bytes c)) (sym h.2) (coded_body es name c h.3)))))

each_attribute : (es : List Entry) (found parts : List Attribute) → AreOfMethod es found parts → Each (λ found. grammar.attribute_of es (list_any grammar.is_coded found)) attribute_bytes found parts
each_attribute es found [] h = tt
each_attribute es found (a ∷ parts) h = (attribute_by es (list_any grammar.is_coded found) a (out-Attribute a) (roll-out-Attribute a) h.0, each_attribute es (found ++ a ∷ []) parts h.1)

attributes_spelled : (es : List Entry) (parts : List Attribute) → Small (length parts) → AreOfMethod es [] parts → (grammar.attributes es).Spells parts (attributes_bytes parts)
unfolding grammar.attributes
attributes_spelled es parts few h = counts (λ found. grammar.attribute_of es (list_any grammar.is_coded found)) attribute_bytes parts few (each_attribute es [] parts h)

-- ---- members

field_made : (es : List Entry) (m : Member) → IsField es m → (grammar.field es).Spells (m ∷ []) (member_bytes m)
unfolding grammar.field
field_made es m h =
    let end : ℕ → ℕ → ℕ → Layout (List Member) = λ flags name descriptor. (grammar.raws es >>= λ parts. pure (record { flags = record { bits = flags }; name = name; descriptor = descriptor; attributes = parts } ∷ [])) in
    behind (number w16) (λ flags. text_index es >>= λ name. text_index es >>= λ descriptor. grammar.raws es >>= λ parts. pure (record { flags = record { bits = flags }; name = name; descriptor = descriptor; attributes = parts } ∷ [])) m.flags.bits (m ∷ []) (u2 m.flags.bits) (u2 m.name ++ (u2 m.descriptor ++ attributes_bytes m.attributes)) (two m.flags.bits h.flags)
    (behind (text_index es) (λ name. text_index es >>= λ descriptor. grammar.raws es >>= λ parts. pure (record { flags = m.flags; name = name; descriptor = descriptor; attributes = parts } ∷ [])) m.name (m ∷ []) (u2 m.name) (u2 m.descriptor ++ attributes_bytes m.attributes) (text_at es m.name h.name)
    (behind (text_index es) (λ descriptor. grammar.raws es >>= λ parts. pure (record { flags = m.flags; name = m.name; descriptor = descriptor; attributes = parts } ∷ [])) m.descriptor (m ∷ []) (u2 m.descriptor) (attributes_bytes m.attributes) (text_at es m.descriptor h.descriptor)
    (last (grammar.raws es) (λ parts. record { flags = m.flags; name = m.name; descriptor = m.descriptor; attributes = parts } ∷ []) m.attributes (attributes_bytes m.attributes) (raws_spelled es m.attributes h.few h.raws))))

method_made : (es : List Entry) (m : Member) → IsMethod es m → (grammar.method es).Spells (m ∷ []) (member_bytes m)
unfolding grammar.method
method_made es m h =
    behind (number w16) (λ flags. text_index es >>= λ name. text_index es >>= λ descriptor. grammar.attributes es >>= λ parts. pure (record { flags = record { bits = flags }; name = name; descriptor = descriptor; attributes = parts } ∷ [])) m.flags.bits (m ∷ []) (u2 m.flags.bits) (u2 m.name ++ (u2 m.descriptor ++ attributes_bytes m.attributes)) (two m.flags.bits h.flags)
    (behind (text_index es) (λ name. text_index es >>= λ descriptor. grammar.attributes es >>= λ parts. pure (record { flags = m.flags; name = name; descriptor = descriptor; attributes = parts } ∷ [])) m.name (m ∷ []) (u2 m.name) (u2 m.descriptor ++ attributes_bytes m.attributes) (text_at es m.name h.name)
    (behind (text_index es) (λ descriptor. grammar.attributes es >>= λ parts. pure (record { flags = m.flags; name = m.name; descriptor = descriptor; attributes = parts } ∷ [])) m.descriptor (m ∷ []) (u2 m.descriptor) (attributes_bytes m.attributes) (text_at es m.descriptor h.descriptor)
    (last (grammar.attributes es) (λ parts. record { flags = m.flags; name = m.name; descriptor = m.descriptor; attributes = parts } ∷ []) m.attributes (attributes_bytes m.attributes) (attributes_spelled es m.attributes h.few h.parts))))

each_field : (es : List Entry) (found ms : List Member) → AreFields es ms → Each (λ found. grammar.field es) member_bytes found ms
each_field es found [] h = tt
each_field es found (m ∷ ms) h = (field_made es m h.0, each_field es (found ++ m ∷ []) ms h.1)

each_method : (es : List Entry) (found ms : List Member) → AreMethods es ms → Each (λ found. grammar.method es) member_bytes found ms
each_method es found [] h = tt
each_method es found (m ∷ ms) h = (method_made es m h.0, each_method es (found ++ m ∷ []) ms h.1)

fields_spelled : (es : List Entry) (ms : List Member) → Small (length ms) → AreFields es ms → (grammar.fields es).Spells ms (members_bytes ms)
unfolding grammar.fields
fields_spelled es ms few h = counts (λ found. grammar.field es) member_bytes ms few (each_field es [] ms h)

methods_spelled : (es : List Entry) (ms : List Member) → Small (length ms) → AreMethods es ms → (grammar.methods es).Spells ms (members_bytes ms)
unfolding grammar.methods
methods_spelled es ms few h = counts (λ found. grammar.method es) member_bytes ms few (each_method es [] ms h)

-- ---- the whole

magic_spelled : grammar.magic.Spells tt (u4 0xcafe_babe)
magic_spelled = record { value = 0xcafe_babe; first = four 0xcafe_babe (omega arith); is = refl }

version_spelled : (n : ℕ) → 49 ≤ n → n ≤ 65 → grammar.version.Spells n (u2 0 ++ u2 n)
unfolding grammar.version
version_spelled n least most =
    behind (number w16) (λ minor. checked (number w16) (λ major. minor == 0 && not (nat_lt major 49) && nat_lt major 66) (λ at major. fault.Version)) 0 n (u2 0) (u2 n) (two 0 (omega arith))
    (passes (number w16) (λ major. 0 == 0 && not (nat_lt major 49) && nat_lt major 66) (λ at major. fault.Version) n (u2 n) (two n (omega (arith, most))) (is_major_too n least most))
  where
    is_major_too : (n : ℕ) → 49 ≤ n → n ≤ 65 → (0 == 0 && not (nat_lt n 49) && nat_lt n 66) ≡ true
    is_major_too n least most = grind (arith, nat_tests)

abbrev Whole : ℕ → List Entry → ℕ → ℕ → ℕ → List ℕ → List Member → List Member → List Attribute → Class
Whole major es flags this parent faces slots calls others = record { major = major; pool = es; flags = record { bits = flags }; this = this; parent = parent; interfaces = faces; fields = slots; methods = calls; attributes = others }

pub class_spelled : (c : Class) → grammar.pool.Spells c.pool (pool_bytes c.pool) → IsValid c → grammar.class.Spells c (class_bytes c)
unfolding grammar.class
class_spelled c pool h =
    let es = c.pool in
    let b9 = attributes_bytes c.attributes in
    let b8 = members_bytes c.methods ++ b9 in
    let b7 = members_bytes c.fields ++ b8 in
    let b6 = interfaces_bytes c.interfaces ++ b7 in
    let b5 = u2 c.parent ++ b6 in
    let b4 = u2 c.this ++ b5 in
    let b3 = u2 c.flags.bits ++ b4 in
    let b2 = pool_bytes es ++ b3 in
    let p9 = last (grammar.raws es) (λ o. Whole c.major es c.flags.bits c.this c.parent c.interfaces c.fields c.methods o) c.attributes b9 (raws_spelled es c.attributes h.few_raws h.raws) in
    let p8 = behind (grammar.methods es) (λ ms. grammar.raws es >>= λ o. pure (Whole c.major es c.flags.bits c.this c.parent c.interfaces c.fields ms o)) c.methods c (members_bytes c.methods) b9 (methods_spelled es c.methods h.few_methods h.methods) p9 in
    let p7 = behind (grammar.fields es) (λ fs. grammar.methods es >>= λ ms. grammar.raws es >>= λ o. pure (Whole c.major es c.flags.bits c.this c.parent c.interfaces fs ms o)) c.fields c (members_bytes c.fields) b8 (fields_spelled es c.fields h.few_fields h.fields) p8 in
    let p6 = behind (grammar.interfaces es) (λ ns. grammar.fields es >>= λ fs. grammar.methods es >>= λ ms. grammar.raws es >>= λ o. pure (Whole c.major es c.flags.bits c.this c.parent ns fs ms o)) c.interfaces c (interfaces_bytes c.interfaces) b7 (interfaces_spelled es c.interfaces h.few_interfaces h.interfaces) p7 in
    let p5 = behind (parent_index es) (λ n. grammar.interfaces es >>= λ ns. grammar.fields es >>= λ fs. grammar.methods es >>= λ ms. grammar.raws es >>= λ o. pure (Whole c.major es c.flags.bits c.this n ns fs ms o)) c.parent c (u2 c.parent) b6 (parent_at es c.parent h.parent.0 h.parent.1) p6 in
    let p4 = behind (class_index es) (λ t. parent_index es >>= λ n. grammar.interfaces es >>= λ ns. grammar.fields es >>= λ fs. grammar.methods es >>= λ ms. grammar.raws es >>= λ o. pure (Whole c.major es c.flags.bits t n ns fs ms o)) c.this c (u2 c.this) b5 (class_at es c.this h.this.0 h.this.1) p5 in
    let p3 = behind (number w16) (λ fl. class_index es >>= λ t. parent_index es >>= λ n. grammar.interfaces es >>= λ ns. grammar.fields es >>= λ fs. grammar.methods es >>= λ ms. grammar.raws es >>= λ o. pure (Whole c.major es fl t n ns fs ms o)) c.flags.bits c (u2 c.flags.bits) b4 (two c.flags.bits h.flags) p4 in
    let p2 = behind grammar.pool (λ es. number w16 >>= λ fl. class_index es >>= λ t. parent_index es >>= λ n. grammar.interfaces es >>= λ ns. grammar.fields es >>= λ fs. grammar.methods es >>= λ ms. grammar.raws es >>= λ o. pure (Whole c.major es fl t n ns fs ms o)) es c (pool_bytes es) b3 pool p3 in
    let p1 = behind grammar.version (λ major. grammar.pool >>= λ es. number w16 >>= λ fl. class_index es >>= λ t. parent_index es >>= λ n. grammar.interfaces es >>= λ ns. grammar.fields es >>= λ fs. grammar.methods es >>= λ ms. grammar.raws es >>= λ o. pure (Whole major es fl t n ns fs ms o)) c.major c (u2 0 ++ u2 c.major) b2
    (version_spelled c.major h.least_major h.most_major) p2 in
    let p0 = behind grammar.magic (λ u. grammar.version >>= λ major. grammar.pool >>= λ es. number w16 >>= λ fl. class_index es >>= λ t. parent_index es >>= λ n. grammar.interfaces es >>= λ ns. grammar.fields es >>= λ fs. grammar.methods es >>= λ ms. grammar.raws es >>= λ o. pure (Whole major es fl t n ns fs ms o)) tt c (u4 0xcafe_babe) ((u2 0 ++ u2 c.major) ++ b2)
    magic_spelled p1 in
    subst (λ (w : List ℕ). grammar.class.Spells c (u4 0xcafe_babe ++ w)) (append_assoc (u2 0) (u2 c.major) b2) p0
