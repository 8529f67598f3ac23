-- How a step of a call that is taken is made: its book and its painting are the definition's.
use Rattle.std.proofs.Common.{◌≡◌, Some, None, sym, refl, ap, ◌∙◌}
use Rattle.store.specs.Held.{Held, Changed}
use Rattle.machine.specs.Calls.{Call, refused}
use Rattle.machine.specs.Checks.{Setup}
use Rattle.machine.specs.Machine.{given, refusal, unless_refused}
use Rattle.views.specs.View.{Book, size_of, work_at}
use Rattle.views.specs.Step.{painting, painting_at, paints, paint_of, book_taken, Step}

module _ (s : Setup) (b b' : Book) (h h' : Held) (call : Call) where
  pub step-taken :
      refusal (size_of h) s (work_at s b h) call ≡ None
      → b' ≡ book_taken b call
      → Changed h h' (paints s (painting s (work_at s b h) call)) (paint_of s (painting s (work_at s b h) call))
      → Step (record { setup = Some s; book = b; held = h }) call (given s call) (record { setup = Some s; book = b'; held = h' })
  step-taken fine book change = record {
    setup = refl;
    answer = sym (ap (λ q. unless_refused q refused (given s call)) fine);
    book = book ∙ sym (ap (λ q. unless_refused q (λ _. b) (book_taken b call)) fine);
    places = rewritten change;
  }
    where
      taken : painting_at (Some s) b h call ≡ painting s (work_at s b h) call
      taken = ap (λ q. unless_refused q (λ _. None) (painting s (work_at s b h) call)) fine

      rewritten :
          Changed h h' (paints s (painting s (work_at s b h) call)) (paint_of s (painting s (work_at s b h) call))
          → Changed h h' (paints s (painting_at (Some s) b h call)) (paint_of s (painting_at (Some s) b h call))
      rewritten c = rw taken c
