-- A job may be shared by threads, and a build state may go to another one: their trees, texts and
-- numbers name no thread.
use denote.Param.Send.{IsSend, IsSync, sendable, view_send}
use denote.Param.SendFields.{as_row_send, as_row_sync, declared_send, declared_sync}
use denote.RattleType.{RattleType}
use denote.Ref.{NamedLft}
use denote.Struct.Declared.{row}
use denote.Struct.Field.{row_field}
use denote.Struct.Record.{declared}
use denote.Struct.Tuple.{Tuple, tuple_type}
use Rattle.std.proofs.Common.{[], ◌∷◌}
use Rattle.std.proofs.Crossing.{crosses}
use Rattle.item_types.proofs.boxed.Boxed.TheSendSync as boxed
use Rattle.item_types.proofs.decl.Names.TheSendSync as names
use Rattle.item_types.proofs.seq.Seq.TheSendSync as seq
use Rattle.item_types.proofs.shared.Shared.TheSendSync as shared
use Rattle.item_types.proofs.shared.SharedText.TheSendSync as shared_text
use Rattle.item_types.proofs.text.Text.TheSendSync as text
use Rattle.item_types.proofs.value.NodeId.TheSendSync as node
use Rattle.item_types.proofs.value.Proxy.TheSendSync as proxy
use Rattle.item_types.proofs.value.Value.TheLaws.TheKnot.{both_send-Value}
use Rattle.item_types.specs.contracts.value.Value as value
use Rattle.chain_builder.proofs.plan.Plan.TheSendSync as plan
use Rattle.syntax_tree.proofs.tree.Expr.TheLaws.TheKnot.{sync-Expr}
use Rattle.syntax_tree.proofs.tree.Link.TheSendSync as link
use Rattle.syntax_tree.proofs.tree.Stmt.TheLaws.TheKnot.{sync-Stmt}
use Rattle.syntax_tree.specs.contracts.tree.Body as body
use Rattle.syntax_tree.specs.contracts.tree.Expr as expr
use Rattle.syntax_tree.specs.contracts.tree.Stmt as stmt
use Rattle.recorder_proxy.specs.contracts.call.Call as call
use Rattle.step_state.proofs.outcome.Reason.TheSendSync as reason
use Rattle.step_state.specs.contracts.outcome.Inputs as inputs
use Rattle.item_store.specs.contracts.pile.Pile as pile
use Rattle.item_store.specs.contracts.store.Store as store
use Rattle.dep_counter.proofs.counts.Counts.TheSendSync as counts
use Rattle.step_set.proofs.set.StepSet.TheSendSync as steps
use Rattle.build_history.specs.contracts.event.Event as event
use Rattle.build_history.specs.contracts.history.History as history
use Rattle.build_history.specs.contracts.job.Job as job
use Rattle.build_state.proofs.mark.Mark.TheSendSync as mark
use Rattle.build_state.specs.contracts.puts.Puts as puts
use Rattle.build_state.specs.contracts.slot.Slot as slot
use Rattle.build_state.specs.contracts.state.BuildState as state
use Rattle.build_state.specs.contracts.state.BuildState.TheInside as inside

-- ---- a job is shared
pair-sync : (A B : RattleType) → IsSync A → IsSync B → IsSync (Tuple (A ∷ B ∷ []))
pair-sync A B a b = declared_sync (tuple_type (A ∷ B ∷ [])) (as_row_sync (row_field A) a, (as_row_sync (row_field B) b, tt))

ruleset leaves = (sendable, seq.the_sync, text.the_sync, link.the_field_sync, boxed.the_sync)

expr-sync : IsSync (expr.the_field).row
expr-sync =
    sync-Expr (search leaves) (search leaves) (search leaves) (search leaves)
    (λ h s. search (sendable, seq.the_sync, text.the_sync, pair-sync) depth 12 fits 4000)
    (search leaves) boxed.the_sync (search leaves) (search leaves)

stmt-sync : IsSync (stmt.the_field).row
stmt-sync =
    sync-Stmt (search sendable) text.the_sync expr-sync
    (search (sendable, seq.the_sync, expr-sync) depth 12 fits 4000)
    seq.the_sync
    (λ h s. search (sendable, seq.the_sync) depth 12 fits 4000)

body-sync : IsSync (body.the_field).row
body-sync = search (sendable, seq.the_sync, stmt-sync) depth 12 fits 4000

pub job-sync : IsSync job.the_row
job-sync = search (sendable, plan.the_sync, names.the_field_sync, seq.the_sync, body-sync) depth 12 fits 4000

-- ---- what a state holds goes to another thread
ruleset plain = (sendable, text.the_send, text.the_sync, shared_text.the_send, shared_text.the_sync, node.the_field_send, node.the_field_sync, proxy.the_field_send, proxy.the_field_sync)

value-send : IsSend (value.the_field).row
value-send =
    both_send-Value (search plain) (search plain) (search plain) (search plain) (search plain) (search plain) (search plain) (search plain)
    shared.the_send shared.the_sync (search plain) (search plain) (search plain) (search plain)

call-send : IsSend (call.the_field).row
call-send = search (sendable, seq.the_send, value-send) depth 12 fits 4000

inputs-send : IsSend (inputs.the_field).row
inputs-send = search (sendable, seq.the_send, value-send) depth 12 fits 4000

event-send : IsSend (event.the_field).row
event-send = search (sendable, seq.the_send, value-send, call-send, reason.the_field_send) depth 12 fits 4000

history-send : IsSend history.the_row
history-send = search (sendable, crosses, event-send) depth 12 fits 4000

pile-send : IsSend pile.the_row
pile-send = search (sendable, crosses, value-send) depth 12 fits 4000

store-send : IsSend store.the_row
store-send = search (sendable, crosses, names.the_field_send, pile-send) depth 12 fits 4000

pair-send : (A B : RattleType) → IsSend A → IsSend B → IsSend (Tuple (A ∷ B ∷ []))
pair-send A B a b = declared_send (tuple_type (A ∷ B ∷ [])) (as_row_send (row_field A) a, (as_row_send (row_field B) b, tt))

puts-send : IsSend puts.the_row
puts-send = search (sendable, crosses, value-send, pair-send) depth 14 fits 8000

slot-send : IsSend (slot.the_field).row
slot-send = search (sendable, mark.the_field_send, inputs-send, puts-send, seq.the_send, call-send, reason.the_send) depth 12 fits 4000

abbrev fields : NamedLft → RattleType
fields κ = row (declared (inside.struct κ) inside.the_propositions)

fields-send : (κ : NamedLft) → IsSend (fields κ)
fields-send κ = search (sendable, crosses, job-sync, history-send, store-send, counts.the_send, steps.the_send, slot-send) depth 20 fits 8000

pub state-send : (κ : NamedLft) → IsSend (state.the_row κ)
state-send κ = view_send (fields κ) _ _ _ _ (fields-send κ)
