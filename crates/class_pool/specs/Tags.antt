-- The tags of the entries of a constant pool, a byte each (JVMS 4.4, table 4.4-A).
use Rattle.std.specs.Prelude.{ℕ, cond, ◌==◌, Option, Some, None}
use Rattle.class_pool.specs.declared.tag.Tag.{Tag}
use Rattle.class_pool.specs.declared.tag.Tag.TheVariants as tag

abbrev pub byte_of : Tag → ℕ
byte_of tag.Utf8 = 1
byte_of tag.Integer = 3
byte_of tag.Float = 4
byte_of tag.Long = 5
byte_of tag.Double = 6
byte_of tag.Class = 7
byte_of tag.Str = 8
byte_of tag.Field = 9
byte_of tag.Method = 10
byte_of tag.Interface = 11
byte_of tag.NameType = 12

abbrev pub tag_of : ℕ → Option Tag
tag_of b =
    cond (b == 1) (Some tag.Utf8) (
    cond (b == 3) (Some tag.Integer) (
    cond (b == 4) (Some tag.Float) (
    cond (b == 5) (Some tag.Long) (
    cond (b == 6) (Some tag.Double) (
    cond (b == 7) (Some tag.Class) (
    cond (b == 8) (Some tag.Str) (
    cond (b == 9) (Some tag.Field) (
    cond (b == 10) (Some tag.Method) (
    cond (b == 11) (Some tag.Interface) (
    cond (b == 12) (Some tag.NameType) None))))))))))
