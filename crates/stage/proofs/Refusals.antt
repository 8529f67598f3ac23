-- What the arguments decide, and then what the state decides, is the definition's refusal.
use Rattle.std.proofs.Common.{◌≡◌, ℕ, suc, ◌≤◌, Bool, true, false, ◌&&◌, ltb, leb, List, [], ◌∷◌, ◌++◌, length, take, is_some, None, Ok, Err, Result, sym, ap, ◌∙◌, arith}
use Rattle.std.specs.Result.{result_err, result_and}
use Rattle.std.proofs.lemmas.List.{length-take}
use Rattle.std.proofs.lemmas.Bool.{and_parts, and_from, not-false, eqb-true, le-leb, true≢false}
use Rattle.refusal.specs.declared.Refusal.{Refusal}
use Rattle.refusal.specs.declared.Refusal.TheVariants.{NoFrameOpen}
use Rattle.blend.specs.declared.modes.Kind.{Kind}
use Rattle.machine.specs.declared.calls.Header.{Header}
use Rattle.machine.specs.declared.calls.FrameRecord.{FrameRecord}
use Rattle.machine.specs.Calls.{Image, opening}
use Rattle.machine.specs.declared.calls.Stamp.{Stamp}
use Rattle.machine.specs.Checks.{Check, Setup, checks, first_broken, draw_state, ◌unless◌}
use Rattle.machine.specs.declared.calls.Size.{Size}
use Rattle.machine.specs.Machine.{Work, open_number, refusal}
use Rattle.machine.proofs.Wholes.{Unbroken, none_unbroken}
use Rattle.canvas.specs.declared.terms.Terms.{Terms}
use Rattle.canvas.specs.Fields.{setup_from}
use Rattle.machine.proofs.Firsts.{first_some, first_none}

-- what comes first of two results, by the first broken condition of each
pub in_turn : {X : Type 0} (cs ds : List Check) (asked left : Result X Refusal) → result_err asked ≡ first_broken cs → result_err left ≡ first_broken ds → result_err (result_and asked left) ≡ first_broken (cs ++ ds)
in_turn cs ds (Err r) left e f = e ∙ first_some cs ds (sym (ap is_some e))
in_turn cs ds (Ok x) left e f = f ∙ first_none cs ds (sym (ap is_some e))

-- a frame that is opened has nine records at the most, and a slot for its target
pub open_fits :
    (terms : Terms) (size : Size) (w : Work) (h : Header) (records : List FrameRecord) (image : Image)
    → None ≡ refusal size (setup_from terms) w (opening h records image)
    → (leb (length records) 9 && ltb h.target 4) ≡ true
open_fits terms size w h records image fine =
    let unbroken = none_unbroken (checks size (setup_from terms) (open_number w.frame) w.last (opening h records image)) (sym fine) in
    let target = (and_parts (ltb h.target 4) _ (not-false _ unbroken.1.0)).0 in
    let count = eqb-true (length records) (suc (length (take terms.extras terms.kinds))) (not-false _ unbroken.1.1.0) in
    let kinds : length (take terms.extras terms.kinds) ≤ 8 = few-taken terms.extras terms.kinds terms.few.1 in
    and_from _ _ (le-leb (length records) 9 (omega arith)) target
  where
    few-taken : (n : ℕ) (kinds : List Kind) → n ≤ 8 → length (take n kinds) ≤ 8
    few-taken n kinds few = simp length-take (omega arith)

-- where a call is taken that wants an open frame, one is open
next_fine : (cs : List Check) (d : Check) (ds : List Check) → Unbroken (cs ++ (d ∷ ds)) → d.broken ≡ false
next_fine [] d ds fine = fine.0
next_fine (c ∷ cs) d ds fine = next_fine cs d ds fine.1

pub no_frame : (cs : List Check) (s : Setup) (stamp : Stamp) (fits : Bool) → None ≡ first_broken (cs ++ draw_state s None stamp fits) → ⊥
no_frame cs s stamp fits fine = true≢false (next_fine cs (NoFrameOpen unless false) _ (none_unbroken (cs ++ draw_state s None stamp fits) (sym fine)))
