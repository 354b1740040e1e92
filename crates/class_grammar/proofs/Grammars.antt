-- Each layout of the grammar is read rightly.
use Rattle.std.proofs.Common.{ℕ, Bool, List, [], Some, None}
use Rattle.class_pool.specs.declared.entry.Entry.{Entry}
use Rattle.std.specs.Prelude.{Option}
use Rattle.class_pool.specs.declared.tag.Tag.{Tag}
use Rattle.class_pool.specs.declared.tag.Tag.TheVariants as tag
use Rattle.class_pool.specs.Tags.{tag_of}
use Rattle.class_grammar.specs.Grammar.{utf8, four, eight, long, double_of, one, pair, two, interface, interfaces, field, fields, entry_with, entry_from, next_entry, pool, text_index, raw, raws, row, code, coded, plain, attribute_of, attributes, method, methods, version, class}
use Rattle.class_grammar.proofs.Right.{Right, right8, right16, right32, run_right, pure_right, refused_right, bind_right, choose_right, turned_right, inside_right, many_right}

utf8_right : (i : ℕ) → Right (utf8 i)
unfolding utf8
utf8_right i = bind_right _ _ right16 (λ len. bind_right _ _ (turned_right _ _ _ (run_right len)) (λ text. pure_right _))

four_right : (made : ℕ → Entry) → Right (four made)
unfolding four
four_right made = bind_right _ _ right32 (λ n. pure_right _)

eight_right : (i count : ℕ) → Right (eight i count)
unfolding eight
eight_right i count = bind_right _ _ right32 (λ high. bind_right _ _ right32 (λ low. choose_right _ _ _ (pure_right _) (refused_right _)))

long_right : (i count : ℕ) → Right (long i count)
unfolding long
long_right i count = bind_right _ _ (eight_right i count) (λ n. pure_right _)

double_right : (i count : ℕ) → Right (double_of i count)
unfolding double_of
double_right i count = bind_right _ _ (eight_right i count) (λ n. pure_right _)

one_right : (made : ℕ → Entry) → Right (one made)
unfolding one
one_right made = bind_right _ _ right16 (λ n. pure_right _)

pair_right : Right pair
unfolding pair
pair_right = bind_right _ _ right16 (λ a. bind_right _ _ right16 (λ b. pure_right _))

two_right : (made : ℕ → ℕ → Entry) → Right (two made)
unfolding two
two_right made = bind_right _ _ pair_right (λ ab. pure_right _)

entry_with_right : (i count : ℕ) (t : Option Tag) → Right (entry_with i count t)
unfolding entry_with
entry_with_right i count None = refused_right _
entry_with_right i count (Some tag.Utf8) = utf8_right i
entry_with_right i count (Some tag.Integer) = four_right _
entry_with_right i count (Some tag.Float) = four_right _
entry_with_right i count (Some tag.Long) = long_right i count
entry_with_right i count (Some tag.Double) = double_right i count
entry_with_right i count (Some tag.Class) = one_right _
entry_with_right i count (Some tag.Str) = one_right _
entry_with_right i count (Some tag.Field) = two_right _
entry_with_right i count (Some tag.Method) = two_right _
entry_with_right i count (Some tag.Interface) = two_right _
entry_with_right i count (Some tag.NameType) = two_right _

entry_from_right : (i count : ℕ) → Right (entry_from i count)
unfolding entry_from
entry_from_right i count = bind_right _ _ right8 (λ byte. entry_with_right i count (tag_of byte))

next_entry_right : (count : ℕ) (found : List Entry) → Right (next_entry count found)
unfolding next_entry
next_entry_right count found = choose_right _ _ _ (entry_from_right _ count) (pure_right _)

pool_right : Right pool
unfolding pool
pool_right = bind_right _ _ (turned_right _ _ _ right16) (λ count. turned_right _ _ _ (many_right count [] (next_entry count) (next_entry_right count)))

text_index_right : (es : List Entry) → Right (text_index es)
text_index_right es = turned_right _ _ _ right16

interface_right : (es : List Entry) → Right (interface es)
unfolding interface
interface_right es = bind_right _ _ (turned_right _ _ _ right16) (λ n. pure_right _)

interfaces_right : (es : List Entry) → Right (interfaces es)
unfolding interfaces
interfaces_right es = bind_right _ _ right16 (λ count. many_right count [] _ (λ found. interface_right es))

raw_right : (es : List Entry) → Right (raw es)
unfolding raw
raw_right es = bind_right _ _ (text_index_right es) (λ name. bind_right _ _ right32 (λ len. bind_right _ _ (run_right len) (λ bytes. pure_right _)))

raws_right : (es : List Entry) → Right (raws es)
unfolding raws
raws_right es = bind_right _ _ right16 (λ count. many_right count [] _ (λ found. raw_right es))

row_right : Right row
unfolding row
row_right = bind_right _ _ right16 (λ a. bind_right _ _ right16 (λ b. bind_right _ _ right16 (λ c. bind_right _ _ right16 (λ d. pure_right _))))

code_right : (es : List Entry) → Right (code es)
unfolding code
code_right es =
    bind_right _ _ right16 (λ stack. bind_right _ _ right16 (λ locals. bind_right _ _ (turned_right _ _ _ right32) (λ len. bind_right _ _ (run_right len) (λ bytes.
    bind_right _ _ right16 (λ rows. bind_right _ _ (many_right rows [] _ (λ found. row_right)) (λ catches. bind_right _ _ (raws_right es) (λ others. pure_right _)))))))

coded_right : (es : List Entry) (seen : Bool) (name len : ℕ) → Right (coded es seen name len)
unfolding coded
coded_right es seen name len = bind_right _ _ (inside_right len _ _ (choose_right _ _ _ (refused_right _) (code_right es))) (λ c. pure_right _)

plain_right : (name len : ℕ) → Right (plain name len)
unfolding plain
plain_right name len = bind_right _ _ (run_right len) (λ bytes. pure_right _)

attribute_of_right : (es : List Entry) (seen : Bool) → Right (attribute_of es seen)
unfolding attribute_of
attribute_of_right es seen = bind_right _ _ (text_index_right es) (λ name. bind_right _ _ right32 (λ len. choose_right _ _ _ (coded_right es seen name len) (plain_right name len)))

attributes_right : (es : List Entry) → Right (attributes es)
unfolding attributes
attributes_right es = bind_right _ _ right16 (λ count. many_right count [] _ (λ found. attribute_of_right es _))

field_right : (es : List Entry) → Right (field es)
unfolding field
field_right es = bind_right _ _ right16 (λ flags. bind_right _ _ (text_index_right es) (λ name. bind_right _ _ (text_index_right es) (λ descriptor. bind_right _ _ (raws_right es) (λ parts. pure_right _))))

fields_right : (es : List Entry) → Right (fields es)
unfolding fields
fields_right es = bind_right _ _ right16 (λ count. many_right count [] _ (λ found. field_right es))

method_right : (es : List Entry) → Right (method es)
unfolding method
method_right es = bind_right _ _ right16 (λ flags. bind_right _ _ (text_index_right es) (λ name. bind_right _ _ (text_index_right es) (λ descriptor. bind_right _ _ (attributes_right es) (λ parts. pure_right _))))

methods_right : (es : List Entry) → Right (methods es)
unfolding methods
methods_right es = bind_right _ _ right16 (λ count. many_right count [] _ (λ found. method_right es))

version_right : Right version
unfolding version
version_right = bind_right _ _ right16 (λ minor. turned_right _ _ _ right16)

pub class_right : Right class
unfolding class
class_right =
    bind_right _ _ (turned_right _ _ _ right32) (λ u. bind_right _ _ version_right (λ major. bind_right _ _ pool_right (λ es. bind_right _ _ right16 (λ flags.
    bind_right _ _ (turned_right _ _ _ right16) (λ this. bind_right _ _ (turned_right _ _ _ right16) (λ parent. bind_right _ _ (interfaces_right es) (λ faces. bind_right _ _ (fields_right es) (λ slots.
    bind_right _ _ (methods_right es) (λ calls. bind_right _ _ (raws_right es) (λ others. pure_right _))))))))))
