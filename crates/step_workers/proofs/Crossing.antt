-- A desk may be shared by threads, for what lies under its lock may go to another one.
use denote.Ref.{NamedLft}
use denote.Param.Send.{IsSend, IsSync, sendable}
use Rattle.std.proofs.Crossing.{crosses}
use Rattle.build_state.proofs.CallerLemmas.{state-send}
use Rattle.step_workers.specs.contracts.desk.Shared as shared
use Rattle.step_workers.specs.contracts.desk.Desk as desk

shared-send : (κ : NamedLft) → IsSend (shared.the_row κ)
shared-send κ = search (sendable, state-send) depth 12 fits 4000

pub desk-sync : (κ : NamedLft) → IsSync (desk.the_row κ)
desk-sync κ = search (sendable, crosses, shared-send) depth 12 fits 4000
