-- The bytes that spell attributes and codes.
use Rattle.std.proofs.Common.{◌≡◌, ℕ, ◌+◌, ◌-◌, Bool, List, [], ◌++◌, length, refl, sym, ap, ◌∙◌, append_assoc}
use Rattle.std.specs.Int.{w32}
use Rattle.std.specs.List.{flat_map, list_any}
use Rattle.class_pool.specs.declared.entry.Entry.{Entry}
use Rattle.class_pool.specs.declared.class.Attribute.{Attribute, fold-roll-Attribute}
use Rattle.class_pool.specs.declared.class.Attribute.TheVariants as attribute
use Rattle.class_pool.specs.declared.class.Attribute.TheVariants.{rolls-Raw, rolls-Coded}
use Rattle.class_pool.specs.declared.class.Attribute.TheOpen.{Attribute-F, Code-F}
use Rattle.class_pool.specs.declared.class.CatchRow.{CatchRow}
use Rattle.class_pool.specs.declared.class.Code.{Code, roll-Code, out-roll-Code}
use Rattle.class_pool.specs.declared.fault.ClassFault.{ClassFault}
use Rattle.class_grammar.specs.Layout.{SpellsNumber, Chosen, yes, no, number, run, refused}
use Rattle.class_grammar.specs.Grammar.{row, raw, raws, code, coded, plain, attribute_of, attributes, long, is_coded}
use Rattle.class_valid.proofs.Codes.{code_is, fields_bytes}
use Rattle.class_grammar.specs.Bytes.{u2, u4, counted, row_bytes, attribute_step, code_step, attribute_bytes, code_bytes, attributes_bytes}
use Rattle.class_valid.proofs.Joined.{n16, n32, join, end, single, Ones, many_ones, count_then, t16, t32}

row_ones : Ones row_bytes row
unfolding row
row_ones xs bytes h =
    let b = h.second in let c = b.second in let d = c.second in
    single row_bytes (record { start = h.value; end = b.value; handler = c.value; caught = d.value }) xs bytes d.second.is
    (join h (u2 h.value) (u2 b.value ++ (u2 c.value ++ u2 d.value)) (n16 _ _ h.first) (join b (u2 b.value) (u2 c.value ++ u2 d.value) (n16 _ _ b.first) (join c (u2 c.value) (u2 d.value) (n16 _ _ c.first) (end d (u2 d.value) (n16 _ _ d.first) d.second.none))))

raw_bytes : (name : ℕ) (bytes : List ℕ) → attribute_bytes (attribute.Raw name bytes) ≡ u2 name ++ counted bytes
raw_bytes name bytes = ap attribute_bytes (sym (rolls-Raw name bytes)) ∙ fold-roll-Attribute (List ℕ) (List ℕ) attribute_step code_step (Attribute-F.Raw name bytes)

coded_bytes : (name : ℕ) (c : Code) → attribute_bytes (attribute.Coded name c) ≡ u2 name ++ counted (code_bytes c)
coded_bytes name c = ap attribute_bytes (sym (rolls-Coded name c)) ∙ fold-roll-Attribute (List ℕ) (List ℕ) attribute_step code_step (Attribute-F.Coded name c)

-- a length, and a run that has it
run_then : (n : ℕ) (run number back : List ℕ) → SpellsNumber w32 n number → length run ≡ n → back ≡ run → number ++ back ≡ counted run
run_then n run number back s len e = rw (n32 n number s, ← len, e) refl

both_are : (a b c d : List ℕ) → a ≡ b → c ≡ d → a ++ c ≡ b ++ d
both_are a b c d e f = rw (e, f) refl

raw_ones : (es : List Entry) → Ones attribute_bytes (raw es)
unfolding raw
raw_ones es xs bytes h =
    let b = h.second in let c = b.second in
    let content : c.front ≡ c.value = c.first.bytes_are in
    let back : b.back ≡ c.value = end c c.value content c.second.none in
    let body : h.back ≡ counted c.value = b.parts ∙ run_then b.value c.value b.front b.back b.first c.first.len_is back in
    single attribute_bytes (attribute.Raw h.value c.value) xs bytes c.second.is (join h (u2 h.value) (counted c.value) (t16 _ h.value h.front h.first) body ∙ sym (raw_bytes h.value c.value))

pub raws_spelled : (es : List Entry) (ys : List Attribute) (bytes : List ℕ) → (raws es).Spells ys bytes → bytes ≡ attributes_bytes ys
unfolding raws
raws_spelled es ys bytes h = count_then attribute_bytes (λ found. raw es) (λ found. raw_ones es) ys bytes h

made_code : (s l : ℕ) (b : List ℕ) (rows : List CatchRow) (others : List Attribute) (c : Code) → c ≡ roll-Code (record { max_stack = s; max_locals = l; code = b; catches = rows; attributes = others })
    → code_bytes c ≡ u2 s ++ (u2 l ++ (counted b ++ ((u2 (length rows) ++ flat_map row_bytes rows) ++ attributes_bytes others)))
made_code s l b rows others c e =
    let made : Code-F Attribute Code = record { max_stack = s; max_locals = l; code = b; catches = rows; attributes = others } in
    ap code_bytes e ∙ code_is (roll-Code made) ∙ ap fields_bytes (out-roll-Code made)

pub code_spelled : (es : List Entry) (c : Code) (bytes : List ℕ) → (code es).Spells c bytes → bytes ≡ code_bytes c
unfolding code
code_spelled es c bytes h =
    let b = h.second in let d = b.second in let e = d.second in let f = e.second in let g = f.second in let k = g.second in
    let last : g.back ≡ attributes_bytes k.value = end k (attributes_bytes k.value) (raws_spelled es k.value k.front k.first) k.second.none in
    let rows_are = many_ones row_bytes (λ found. row) (λ found. row_ones) f.value [] g.value g.front g.first in
    let count : f.value ≡ length g.value = sym rows_are.3 ∙ ap length (sym rows_are.1) in
    let rows_bytes : g.front ≡ flat_map row_bytes g.value = rows_are.2 ∙ ap (flat_map row_bytes) (sym rows_are.1) in
    let tail : e.back ≡ (u2 (length g.value) ++ flat_map row_bytes g.value) ++ attributes_bytes k.value =
    join f (u2 (length g.value)) (flat_map row_bytes g.value ++ attributes_bytes k.value) (n16 f.value f.front f.first ∙ ap u2 count) (join g (flat_map row_bytes g.value) (attributes_bytes k.value) rows_bytes last) ∙ sym (append_assoc (u2 (length g.value)) (flat_map row_bytes g.value) (attributes_bytes k.value)) in
    let body : d.back ≡ e.value ++ ((u2 (length g.value) ++ flat_map row_bytes g.value) ++ attributes_bytes k.value) = join e e.value ((u2 (length g.value) ++ flat_map row_bytes g.value) ++ attributes_bytes k.value) e.first.bytes_are tail in
    let len : d.front ≡ u4 (length e.value) = t32 _ d.value d.front d.first ∙ ap u4 (sym e.first.len_is) in
    let long : b.back ≡ counted e.value ++ ((u2 (length g.value) ++ flat_map row_bytes g.value) ++ attributes_bytes k.value) =
    join d (u4 (length e.value)) (e.value ++ ((u2 (length g.value) ++ flat_map row_bytes g.value) ++ attributes_bytes k.value)) len body ∙ sym (append_assoc (u4 (length e.value)) e.value ((u2 (length g.value) ++ flat_map row_bytes g.value) ++ attributes_bytes k.value)) in
    let all : bytes ≡ u2 h.value ++ (u2 b.value ++ (counted e.value ++ ((u2 (length g.value) ++ flat_map row_bytes g.value) ++ attributes_bytes k.value))) =
    join h (u2 h.value) (u2 b.value ++ (counted e.value ++ ((u2 (length g.value) ++ flat_map row_bytes g.value) ++ attributes_bytes k.value))) (n16 h.value h.front h.first) (join b (u2 b.value) (counted e.value ++ ((u2 (length g.value) ++ flat_map row_bytes g.value) ++ attributes_bytes k.value)) (n16 b.value b.front b.first) long) in
    all ∙ sym (made_code h.value b.value e.value g.value k.value c k.second.is)

code_chosen : (es : List Entry) (seen : Bool) (f : ClassFault) (c : Code) (bytes : List ℕ) → Chosen seen (refused f) (code es) c bytes → bytes ≡ code_bytes c
code_chosen es seen f c bytes (yes e s) = absurd s
code_chosen es seen f c bytes (no e s) = code_spelled es c bytes s

coded_after : (es : List Entry) (seen : Bool) (name len : ℕ) (number back name_bytes bytes : List ℕ) (xs : List Attribute) → name_bytes ≡ u2 name → SpellsNumber w32 len number → bytes ≡ name_bytes ++ (number ++ back) → (coded es seen name len).Spells xs back → (bytes ≡ flat_map attribute_bytes xs) × (length xs ≡ 1)
unfolding coded
coded_after es seen name len number back name_bytes bytes xs n s parts h =
    let content : h.front ≡ code_bytes h.value = code_chosen es seen _ h.value h.front h.first.first in
    let all : back ≡ code_bytes h.value = end h (code_bytes h.value) content h.second.none in
    let len_is : length (code_bytes h.value) ≡ len = ap length (sym content) ∙ h.first.fills in
    single attribute_bytes (attribute.Coded name h.value) xs bytes h.second.is (parts ∙ both_are name_bytes (u2 name) (number ++ back) (counted (code_bytes h.value)) n (run_then len (code_bytes h.value) number back s len_is all) ∙ sym (coded_bytes name h.value))

plain_after : (name len : ℕ) (number back name_bytes bytes : List ℕ) (xs : List Attribute) → name_bytes ≡ u2 name → SpellsNumber w32 len number → bytes ≡ name_bytes ++ (number ++ back) → (plain name len).Spells xs back → (bytes ≡ flat_map attribute_bytes xs) × (length xs ≡ 1)
unfolding plain
plain_after name len number back name_bytes bytes xs n s parts h =
    let all : back ≡ h.value = end h h.value h.first.bytes_are h.second.none in
    single attribute_bytes (attribute.Raw name h.value) xs bytes h.second.is (parts ∙ both_are name_bytes (u2 name) (number ++ back) (counted h.value) n (run_then len h.value number back s h.first.len_is all) ∙ sym (raw_bytes name h.value))

attribute_by : (es : List Entry) (seen b : Bool) (name len : ℕ) (number back name_bytes bytes : List ℕ) (xs : List Attribute) → name_bytes ≡ u2 name → SpellsNumber w32 len number → bytes ≡ name_bytes ++ (number ++ back) → Chosen b (coded es seen name len) (plain name len) xs back → (bytes ≡ flat_map attribute_bytes xs) × (length xs ≡ 1)
attribute_by es seen b name len number back name_bytes bytes xs n s parts (yes e h) = coded_after es seen name len number back name_bytes bytes xs n s parts h
attribute_by es seen b name len number back name_bytes bytes xs n s parts (no e h) = plain_after name len number back name_bytes bytes xs n s parts h

attribute_ones : (es : List Entry) (seen : Bool) → Ones attribute_bytes (attribute_of es seen)
unfolding attribute_of
attribute_ones es seen xs bytes h =
    let b = h.second in
    attribute_by es seen _ h.value b.value b.front b.back h.front bytes xs (t16 _ h.value h.front h.first) b.first (h.parts ∙ ap (λ (w : List ℕ). h.front ++ w) b.parts) b.second

pub attributes_spelled : (es : List Entry) (ys : List Attribute) (bytes : List ℕ) → (attributes es).Spells ys bytes → bytes ≡ attributes_bytes ys
unfolding attributes
attributes_spelled es ys bytes h = count_then attribute_bytes (λ found. attribute_of es (list_any is_coded found)) (λ found. attribute_ones es (list_any is_coded found)) ys bytes h
