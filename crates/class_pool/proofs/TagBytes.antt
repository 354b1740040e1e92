-- A tag and its byte.
use Rattle.std.proofs.Common.{◌≡◌, ℕ, Bool, true, false, cond, Some, None, refl, sym, ap, ◌∙◌}
use Rattle.std.specs.Prelude.{Option, ◌==◌}
use Rattle.std.proofs.lemmas.Bool.{eqb-true}
use Rattle.class_pool.specs.declared.tag.Tag.{Tag}
use Rattle.class_pool.specs.declared.tag.Tag.TheVariants as tag
use Rattle.class_pool.specs.Tags.{tag_of, byte_of}

pub tag_read : (t : Tag) → tag_of (byte_of t) ≡ Some t
tag_read tag.Utf8 = refl
tag_read tag.Integer = refl
tag_read tag.Float = refl
tag_read tag.Long = refl
tag_read tag.Double = refl
tag_read tag.Class = refl
tag_read tag.Str = refl
tag_read tag.Field = refl
tag_read tag.Method = refl
tag_read tag.Interface = refl
tag_read tag.NameType = refl

row_by : (t : Bool) (b k : ℕ) (x y : Tag) (rest : Option Tag) → (b == k) ≡ t → byte_of y ≡ k → (rest ≡ Some x → byte_of x ≡ b) → cond t (Some y) rest ≡ Some x → byte_of x ≡ b
row_by true b k x y rest t is others e = let same : y ≡ x = cc in ap byte_of (sym same) ∙ is ∙ sym (eqb-true b k t)
row_by false b k x y rest t is others e = others e

row : (b k : ℕ) (x y : Tag) (rest : Option Tag) → byte_of y ≡ k → (rest ≡ Some x → byte_of x ≡ b) → cond (b == k) (Some y) rest ≡ Some x → byte_of x ≡ b
row b k x y rest is others e = row_by (b == k) b k x y rest refl is others e

none_left : (b : ℕ) (x : Tag) → None ≡ Some x → byte_of x ≡ b
none_left b x e = absurd cc

pub tag_only : (b : ℕ) (x : Tag) → tag_of b ≡ Some x → byte_of x ≡ b
tag_only b x =
    row b 1 x tag.Utf8 _ refl (
    row b 3 x tag.Integer _ refl (
    row b 4 x tag.Float _ refl (
    row b 5 x tag.Long _ refl (
    row b 6 x tag.Double _ refl (
    row b 7 x tag.Class _ refl (
    row b 8 x tag.Str _ refl (
    row b 9 x tag.Field _ refl (
    row b 10 x tag.Method _ refl (
    row b 11 x tag.Interface _ refl (
    row b 12 x tag.NameType _ refl (
    none_left b x)))))))))))
