-- What `dump` comes to over a file is decided by the file.
use Rattle.std.proofs.Common.{◌≡◌, ◌∙◌, ap, subst, ℕ, ◌<◌, ◌≤◌, inl, inr, List, length, Some, None, codes, arith}
use Rattle.aug_base.specs.Files.{Files}
use Rattle.class_dump.specs.Dump.{dump_text}
use Rattle.class_grammar.specs.Grammar.{Spells, IsStuck}
use Rattle.class_grammar.specs.Layout.{IsBytes}
use Rattle.class_pool.specs.declared.class.Class.{Class}
use Rattle.class_pool.specs.declared.fault.ClassFault.{ClassFault}
use Rattle.class_grammar.specs.FaultText.{fault_text}
use Rattle.command_words.specs.declared.command.Command.TheVariants.{Dump}
use Rattle.quarkus_cli.specs.declared.outcome.Outcome.{Outcome}
use Rattle.quarkus_cli.specs.Outcomes.{CommandOutcome, OfClass, OfDump, OfSize, said, absent, no_class}

sized_large : (Then : List ℕ → Outcome → Type 0) (large : Outcome) (limit : ℕ) (bytes : List ℕ) (o : Outcome) → limit < length bytes → OfSize limit Then large bytes o → o ≡ large
sized_large Then large limit bytes o big of = elim of [ inl h ↦ h.1 | inr h ↦ absurd (omega (arith, big, h.0)) ]

sized_small : (Then : List ℕ → Outcome → Type 0) (large : Outcome) (limit : ℕ) (bytes : List ℕ) (o : Outcome) → length bytes ≤ limit → OfSize limit Then large bytes o → Then bytes o
sized_small Then large limit bytes o small of = elim of [ inl h ↦ absurd (omega (arith, small, h.0)) | inr h ↦ h.1 ]

pub absent_is : (file : List ℕ) (m : Files) (o : Outcome) → m file ≡ None → CommandOutcome (Dump file) m o → o ≡ absent
absent_is file m o is of = subst (λ at. OfDump file at o) is of

sized : (file bytes : List ℕ) (m : Files) (o : Outcome) → m file ≡ Some bytes → CommandOutcome (Dump file) m o → OfSize 2000000 (OfClass file) (no_class file (codes "too large")) bytes o
sized file bytes m o is of = subst (λ at. OfDump file at o) is of

pub large_is : (file bytes : List ℕ) (m : Files) (o : Outcome) → m file ≡ Some bytes → 2000000 < length bytes → CommandOutcome (Dump file) m o → o ≡ no_class file (codes "too large")
large_is file bytes m o is big of = sized_large (OfClass file) (no_class file (codes "too large")) 2000000 bytes o big (sized file bytes m o is of)

of_class : (file bytes : List ℕ) (m : Files) (o : Outcome) → m file ≡ Some bytes → length bytes ≤ 2000000 → CommandOutcome (Dump file) m o → OfClass file bytes o
of_class file bytes m o is small of = sized_small (OfClass file) (no_class file (codes "too large")) 2000000 bytes o small (sized file bytes m o is of)

-- class_grammar's laws
abbrev pub NeverBoth : Type 0
NeverBoth = (b : List ℕ) (c : Class) (f : ClassFault) → IsBytes b → Spells b c → IsStuck b f → ⊥

abbrev pub OneClass : Type 0
OneClass = (b : List ℕ) (c d : Class) → Spells b c → Spells b d → c ≡ d

abbrev pub OnePlace : Type 0
OnePlace = (b : List ℕ) (f g : ClassFault) → IsBytes b → IsStuck b f → IsStuck b g → f ≡ g

module _ (never : NeverBoth) where
  pub dumped_is : OneClass → (file bytes : List ℕ) (m : Files) (c : Class) (o : Outcome) → m file ≡ Some bytes → IsBytes bytes → length bytes ≤ 2000000 → Spells bytes c
      → CommandOutcome (Dump file) m o → o ≡ said 0 (dump_text c)
  dumped_is one file bytes m c o is are small spells of = elim (of_class file bytes m o is small of) [
    | inl done ↦ done.2 ∙ ap (λ (c : Class). said 0 (dump_text c)) (one bytes done.0 c done.1 spells)
    | inr refused ↦ absurd (never bytes c refused.0 are spells refused.1)
  ]

  pub refused_is : OnePlace → (file bytes : List ℕ) (m : Files) (fault : ClassFault) (o : Outcome) → m file ≡ Some bytes → IsBytes bytes → length bytes ≤ 2000000 → IsStuck bytes fault
      → CommandOutcome (Dump file) m o → o ≡ no_class file (fault_text fault)
  refused_is one file bytes m fault o is are small stuck of = elim (of_class file bytes m o is small of) [
    | inl done ↦ absurd (never bytes done.0 fault are done.1 stuck)
    | inr refused ↦ refused.2 ∙ ap (λ (f : ClassFault). no_class file (fault_text f)) (one bytes refused.0 fault are refused.1 stuck)
  ]
