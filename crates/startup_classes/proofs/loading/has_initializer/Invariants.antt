use Rattle.std.proofs.Common.{◌≡◌, drop, codes}
use Rattle.std.specs.List.{list_any}
use Rattle.class_pool.specs.declared.class.Member.{Member}
use Rattle.class_pool.specs.Entries.{entry_at}
use Rattle.class_pool.specs.Showing.{is_text}
use Rattle.startup_classes.proofs.loading.has_initializer.Given as goal

abbrev pub invariant-loop-method : goal.invariant-loop-method
invariant-loop-method l = list_any (λ (m : Member). is_text (codes "<clinit>") (entry_at l.class.pool m.name)) (drop l.method-index l.class.methods) ≡ list_any (λ (m : Member). is_text (codes "<clinit>") (entry_at l.class.pool m.name)) l.class.methods
