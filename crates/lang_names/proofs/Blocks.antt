-- A block whose statement has a wrong name.
use Rattle.std.proofs.Common.{◌≡◌, ℕ, ◌+◌, ◌<◌, List, ◌∷◌, Result, Err, map, drop, length, get_or, ap, sym, ◌∙◌}
use Rattle.std.proofs.lemmas.List.{at_drop_more}
use Rattle.syntax_tree.specs.declared.tree.Stmt.{Stmt}
use Rattle.lang_names.specs.declared.wrong.Wrong.{Wrong}
use Rattle.lang_names.specs.declared.wrong.NameFault.{NameFault}
use Rattle.lang_names.specs.declared.wrong.NameFault.TheVariants as faults
use Rattle.syntax_tree.specs.Known.{Known}
use Rattle.lang_names.specs.Stmts.{run, passing, go_on, dropped, block_right, Passes, Rights}

blocked_by : (k : Known) (stmts : List Stmt) (s0 s : List (List ℕ)) (i : ℕ) (x : Stmt) (w : Wrong)
    → run (map (passing k) stmts) s0 ≡ run (map (passing k) (drop i stmts)) s → i < length stmts → x ≡ get_or stmts i x → passing k x s ≡ Err w
    → block_right (map (passing k) stmts) s0 ≡ Err w
blocked_by k stmts s0 s i x w p h e q =
    ap dropped (p
    ∙ at_drop_more (λ (v : List Stmt). run (map (passing k) v) s) stmts i x h
    ∙ ap (λ (y : Stmt). run (map (passing k) (y ∷ drop (i + 1) stmts)) s) (sym e)
    ∙ ap (λ (o : Result (List (List ℕ)) Wrong). go_on o (run (map (passing k) (drop (i + 1) stmts)))) q)

pub blocked : (k : Known) (stmts : List Stmt) (s0 s new : List (List ℕ)) (i : ℕ) (x : Stmt) (f : NameFault)
    → run (map (passing k) stmts) s0 ≡ run (map (passing k) (drop i stmts)) s → i < length stmts → x ≡ get_or stmts i x → Passes (passing k x s) (Err f) new
    → Rights (block_right (map (passing k) stmts) s0) (Err f)
blocked k stmts s0 s new i x faults.Memory p h e q = tt
blocked k stmts s0 s new i x (faults.Wrong w) p h e q = blocked_by k stmts s0 s i x w p h e q
