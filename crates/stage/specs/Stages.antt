-- A stage as a view, and what its calls answered.
use Rattle.std.specs.Prelude.{◌≡◌, Some, None, Ok, Err, Option, Result}
use Rattle.refusal.specs.declared.Refusal.{Refusal}
use Rattle.store.specs.Held.{Held}
use Rattle.machine.specs.Calls.{Call, Answer, done, opened, refused}
use Rattle.machine.specs.declared.calls.Stamp.{Stamp}
use Rattle.machine.specs.Checks.{Setup}
use Rattle.machine.specs.Machine.{refusal}
use Rattle.views.specs.View.{Opened, View, size_of, work_at}
use Rattle.canvas.specs.declared.terms.Terms.{Terms}
use Rattle.canvas.specs.declared.terms.OpenFrame.{OpenFrame}
use Rattle.canvas.specs.Fields.{setup_from, opened_from}
use Rattle.stage.specs.declared.stage.Stage.{Stage}
use Rattle.stage.specs.declared.ticket.Ticket.{Ticket}

-- ---- the stage

abbrev pub setup_in : Option Terms → Option Setup
setup_in None = None
setup_in (Some terms) = Some (setup_from terms)

abbrev pub opened_in : Option OpenFrame → Option Opened
opened_in None = None
opened_in (Some frame) = Some (opened_from frame)

-- what the stage keeps and what its store holds, whatever the store is
abbrev pub view_of : {X : Type 0} → (X → Held) → Stage X → View
view_of held stage =
    record {
      setup = setup_in stage.terms;
      book = record { filled = stage.filled; opened = opened_in stage.opened; last = stage.last };
      held = held stage.store;
    }

-- why the definition refuses a call of a stage that took these terms
abbrev pub refusal_in : {X : Type 0} → (X → Held) → Stage X → Terms → Call → Option Refusal
refusal_in held stage terms call =
    refusal (size_of (held stage.store)) (setup_from terms) (work_at (setup_from terms) (view_of held stage).book (held stage.store)) call

-- ---- tickets and answers

abbrev pub stamp_of : Ticket → Stamp
stamp_of t = t.stamp

abbrev pub said_open : Result Ticket Refusal → Answer
said_open (Ok ticket) = opened (stamp_of ticket)
said_open (Err refusal) = refused refusal

abbrev pub said_done : {X : Type 0} → Result X Refusal → Answer
said_done (Ok x) = done
said_done (Err refusal) = refused refusal

abbrev pub said_spent : {X : Type 0} → Result X (Refusal × Ticket) → Answer
said_spent (Ok x) = done
said_spent (Err back) = refused back.0

-- a refused ticket comes back as it was
abbrev pub Back : {X : Type 0} → Ticket → Result X (Refusal × Ticket) → Type 0
Back ticket (Ok x) = Unit {0}
Back ticket (Err back) = back.1 ≡ ticket

-- why a start was refused
abbrev pub why_not : {X : Type 0} → Result X Refusal → Option Refusal
why_not (Ok x) = None
why_not (Err refusal) = Some refusal
