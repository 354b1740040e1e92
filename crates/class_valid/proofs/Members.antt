-- The bytes that spell interfaces, fields and methods.
use Rattle.std.proofs.Common.{◌≡◌, ℕ, ◌+◌, List, ◌++◌}
use Rattle.class_pool.specs.declared.entry.Entry.{Entry}
use Rattle.class_pool.specs.declared.class.Member.{Member}
use Rattle.class_grammar.specs.Grammar.{interface, interfaces, field, fields, attributes, method, methods}
use Rattle.class_grammar.specs.Bytes.{u2, attributes_bytes, member_bytes, members_bytes, interfaces_bytes}
use Rattle.class_valid.proofs.Joined.{n16, join, end, single, Ones, count_then, t16}
use Rattle.class_valid.proofs.Attributes.{raws_spelled, attributes_spelled}

method_ones : (es : List Entry) → Ones member_bytes (method es)
unfolding method
method_ones es xs bytes h =
    let b = h.second in let c = b.second in let d = c.second in
    single member_bytes (record { flags = record { bits = h.value }; name = b.value; descriptor = c.value; attributes = d.value }) xs bytes d.second.is
    (join h (u2 h.value) (u2 b.value ++ (u2 c.value ++ attributes_bytes d.value)) (n16 _ _ h.first) (join b (u2 b.value) (u2 c.value ++ attributes_bytes d.value) (t16 _ b.value b.front b.first) (join c (u2 c.value) (attributes_bytes d.value) (t16 _ c.value c.front c.first) (end d (attributes_bytes d.value) (attributes_spelled es d.value d.front d.first) d.second.none))))

pub methods_spelled : (es : List Entry) (ys : List Member) (bytes : List ℕ) → (methods es).Spells ys bytes → bytes ≡ members_bytes ys
unfolding methods
methods_spelled es ys bytes h = count_then member_bytes (λ found. method es) (λ found. method_ones es) ys bytes h

field_ones : (es : List Entry) → Ones member_bytes (field es)
unfolding field
field_ones es xs bytes h =
    let b = h.second in let c = b.second in let d = c.second in
    single member_bytes (record { flags = record { bits = h.value }; name = b.value; descriptor = c.value; attributes = d.value }) xs bytes d.second.is
    (join h (u2 h.value) (u2 b.value ++ (u2 c.value ++ attributes_bytes d.value)) (n16 _ _ h.first) (join b (u2 b.value) (u2 c.value ++ attributes_bytes d.value) (t16 _ b.value b.front b.first) (join c (u2 c.value) (attributes_bytes d.value) (t16 _ c.value c.front c.first) (end d (attributes_bytes d.value) (raws_spelled es d.value d.front d.first) d.second.none))))

pub fields_spelled : (es : List Entry) (ys : List Member) (bytes : List ℕ) → (fields es).Spells ys bytes → bytes ≡ members_bytes ys
unfolding fields
fields_spelled es ys bytes h = count_then member_bytes (λ found. field es) (λ found. field_ones es) ys bytes h

interface_ones : (es : List Entry) → Ones u2 (interface es)
unfolding interface
interface_ones es xs bytes h = single u2 h.value xs bytes h.second.is (end h (u2 h.value) (t16 _ h.value h.front h.first) h.second.none)

pub interfaces_spelled : (es : List Entry) (ns : List ℕ) (bytes : List ℕ) → (interfaces es).Spells ns bytes → bytes ≡ interfaces_bytes ns
unfolding interfaces
interfaces_spelled es ns bytes h = count_then u2 (λ found. interface es) (λ found. interface_ones es) ns bytes h
