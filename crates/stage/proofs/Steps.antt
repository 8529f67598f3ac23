-- Steps of a stage that took its terms: taken with a new book and new samples.
use Rattle.std.proofs.Common.{◌≡◌, Some, None, Option, sym, subst}
use Rattle.store.specs.Held.{Held, Changed}
use Rattle.machine.specs.Calls.{Call}
use Rattle.machine.specs.Machine.{given}
use Rattle.views.specs.View.{Book, View, work_at}
use Rattle.views.specs.Step.{Painting, painting, paints, paint_of, book_taken, Step}
use Rattle.views.proofs.Steps.{step-taken}
use Rattle.canvas.specs.declared.terms.Terms.{Terms}
use Rattle.canvas.specs.Fields.{setup_from}
use Rattle.stage.specs.declared.stage.Stage.{Stage}
use Rattle.stage.specs.Stages.{setup_in, view_of, refusal_in}

-- a view with these terms, a book and what the store holds
abbrev pub view_with : Option Terms → Book → Held → View
view_with terms book held = record { setup = setup_in terms; book = book; held = held }

module _ {X : Type 0} (held : X → Held) (stage : Stage X) (terms : Terms) (took : stage.terms ≡ Some terms) (call : Call) where
  pub takes :
      (book : Book) (after : Held) (a : Option Painting)
      → None ≡ refusal_in held stage terms call
      → book ≡ book_taken (view_of held stage).book call
      → painting (setup_from terms) (work_at (setup_from terms) (view_of held stage).book (held stage.store)) call ≡ a
      → Changed (held stage.store) after (paints (setup_from terms) a) (paint_of (setup_from terms) a)
      → Step (view_of held stage) call (given (setup_from terms) call) (view_with stage.terms book after)
  takes book after a fine kept painted change =
      let s = setup_from terms in
      let b = (view_of held stage).book in
      let h = held stage.store in
      let Made : Option Terms → Type 0 = λ o. Step (view_with o b h) call (given s call) (view_with o book after) in
      let Drawn : Option Painting → Type 0 = λ p. Changed h after (paints s p) (paint_of s p) in
      subst Made (sym took) (step-taken s b book h after call (sym fine) kept (subst Drawn (sym painted) change))
