-- Places among samples: how far they reach, that a number is found for each, and what a write at numbers changes.
use Rattle.std.proofs.Common.{◌≡◌, ℕ, ◌+◌, ◌-◌, ◌*◌, ◌/◌, ◌^◌, ◌<◌, ◌≤◌, Bool, true, false, cond, ◌&&◌, List, length, get_or, drop, take, set, Some, None, Option, sym, refl, ◌∙◌, ⊎_elim, arith}
use lib.Ieee.{Float, nan}
use base.Fml.{GName}
use Rattle.std.proofs.lemmas.Nat.{div-add-mod'}
use borrow.Rule.Slice.PartMut.{put_mid}
use Rattle.std.proofs.lemmas.List.{places, length-set, drop-set-lt, get_or-drop, get_or-set_same, get_or-set_other, ext_get_or}
use Rattle.std.proofs.lemmas.Bool.{cond_both, cases_Bool, cases_lt}
use Rattle.std.proofs.lemmas.Bool.Decides.{nat_tests}
use Rattle.sample.specs.Samples.{zero}
use Rattle.store.specs.Held.{Held, inside, seen, in_run, Changed}
use Rattle.layout.specs.Layout.{planes_of, ordered, Numbers, Told, Found}
use Rattle.layout.specs.Strides.{reaches, IsWritten}
use Rattle.store.proofs.Inside.{in_run_lem}

-- the places of whole planes are among the samples
pub planes_fit : (n columns rows : ℕ) → planes_of n columns rows * rows * columns ≤ n
planes_fit n columns rows =
    cond_both _ 0 (n / (columns * rows)) (λ planes. planes * rows * columns ≤ n) (λ _. omega arith) (λ _. omega (arith, div-add-mod' n (columns * rows)))

module _ {number : ℕ → ℕ → ℕ → ℕ → ℕ → ℕ → ℕ} {stride : ℕ → ℕ} (order : Numbers number stride) (name : GName) (columns rows : ℕ) where
  abbrev pub held : List Float → Held
  held xs = ordered number xs name columns rows

  abbrev pub place : List Float → ℕ → ℕ → ℕ → ℕ
  place xs = number columns rows (held xs).planes

  -- the number of a place inside is that of a sample
  pub place_below : (xs : List Float) (p c r : ℕ) → inside (held xs) p c r ≡ true → place xs p c r < length xs
  place_below xs p c r i = omega (arith, order.below (held xs) p c r i, planes_fit (length xs) columns rows)

  -- the columns of a row lie a stride apart, from its first on
  pub row_place : (xs : List Float) (p c r : ℕ) → place xs p 0 r + c * stride (held xs).planes ≡ place xs p c r
  row_place xs p c r = sym (order.along columns rows (held xs).planes p c r)

  pub row_below : (xs : List Float) (p c r : ℕ) → inside (held xs) p 0 r ≡ true → c < columns → place xs p 0 r + c * stride (held xs).planes < length xs
  row_below xs p c r i lt = rw row_place (place_below xs p c r (grind (arith, nat_tests)))

  -- so they are among the samples from the row's first on, and read so
  pub row_reaches : (xs : List Float) (p r n first step : ℕ) → first ≡ place xs p 0 r → step ≡ stride (held xs).planes → inside (held xs) p 0 r ≡ true → n ≤ columns → reaches (length (take (length xs - first) (drop first xs))) step n
  row_reaches xs p r n first step is-first is-step i le = λ c lt. let below = row_below xs p c r i (omega arith) in rw (is-step, is-first) (grind (arith, places))

  pub row_fits : (xs : List Float) (p r n first : ℕ) → first ≡ place xs p 0 r → stride (held xs).planes ≡ 1 → inside (held xs) p 0 r ≡ true → n ≤ columns → first + n ≤ length xs
  row_fits xs p r n first is-first one i le =
      ⊎_elim
      (λ none. omega (arith, place_below xs p 0 r i))
      (λ some. omega (arith, rw one at (row_below xs p (n - 1) r i (omega arith))))
      (cases_lt n 1)

  pub row_seen : (xs : List Float) (p c r first step : ℕ) → first ≡ place xs p 0 r → step ≡ stride (held xs).planes → inside (held xs) p 0 r ≡ true → c < columns → get_or (take (length xs - first) (drop first xs)) (c * step) nan ≡ seen (held xs) p c r
  row_seen xs p c r first step is-first is-step i lt =
      let below = row_below xs p c r i lt in
      let inner : inside (held xs) p c r ≡ true = grind (arith, nat_tests) in
      let at : get_or (take (length xs - first) (drop first xs)) (c * step) nan ≡ get_or xs (place xs p c r) nan = rw (is-first, is-step) (rw (← row_place xs p c r) (grind (arith, places))) in
      rw inner at

  -- a number that is told for digits in range, or none past 64 bits, is found exactly for the places inside, as all of them have smaller ones
  pub found_place : (xs : List Float) (p c r : ℕ) → length xs < 2 ^ 64 → (o : Option ℕ) → Told (inside (held xs) p c r) (place xs p c r) o → Found (inside (held xs) p c r) (place xs p c r) (length xs) o
  found_place xs p c r small None told =
      ⊎_elim (λ i. absurd (let below = place_below xs p c r i in let past = told i in omega arith)) (λ i. i) (cases_Bool (inside (held xs) p c r))
  found_place xs p c r small (Some n) told = (told.0, told.1, rw told.1 (place_below xs p c r told.0))

  -- samples that read as `when` and `value` say at the number of each place, and as before past the last plane, are such a change
  pub changed_at : (xs ys : List Float) (when : ℕ → ℕ → ℕ → Bool) (value : ℕ → ℕ → ℕ → Float) → length ys ≡ length xs → drop ((held xs).planes * rows * columns) ys ≡ (held xs).rest → ((p c r : ℕ) → inside (held xs) p c r ≡ true → get_or ys (place xs p c r) nan ≡ cond (when p c r) (value p c r) ((held xs).at p c r)) → Changed (held xs) (held ys) when value
  changed_at xs ys when value same rest at = record {
    columns = refl;
    rows = refl;
    planes = rw same;
    rest = rw same rest;
    lent = refl;
    places = λ p c r. rw same (by_inside p c r (inside (held xs) p c r) refl);
  }
    where
      by_inside : (p c r : ℕ) (i : Bool) → inside (held xs) p c r ≡ i → cond i (get_or ys (place xs p c r) nan) zero ≡ cond (i && when p c r) (value p c r) (cond i ((held xs).at p c r) zero)
      by_inside p c r true e = at p c r e
      by_inside p c r false e = refl

  -- one sample written at the number of a place changes that place
  pub changed_put : (xs : List Float) (p c r : ℕ) (v : Float) → inside (held xs) p c r ≡ true → Changed (held xs) (held (set xs (place xs p c r) v)) (in_run p c r 1) (λ _ _ _. v)
  changed_put xs p c r v i =
      let n = place xs p c r in
      let low = order.below (held xs) p c r i in
      changed_at xs (set xs n v) (in_run p c r 1) (λ _ _ _. v) (length-set xs n v) (drop-set-lt _ xs n v low)
      (λ q d s j. let m = place xs q d s in cond_both (in_run p c r 1 q d s) v ((held xs).at q d s) (λ w. get_or (set xs n v) m nan ≡ w)
      (λ e. let at = in_run_lem p c r 1 q d s e in let same : d ≡ c = omega arith in rw (at.0, at.1, same) (get_or-set_same xs n v nan (place_below xs p c r i)))
      (λ e. get_or-set_other xs n m v nan (λ same. let at = order.apart (held xs) q d s p c r j i same in grind (arith, nat_tests))))

  -- a run written to the samples from its row's first on changes that run
  pub changed_run : (xs ys zs : List Float) (p c r n first step : ℕ) → first ≡ place xs p 0 r → step ≡ stride (held xs).planes → inside (held xs) p 0 r ≡ true → c + n ≤ columns → IsWritten (take (length xs - first) (drop first xs)) ys c step zs n → Changed (held xs) (held (put_mid first (length xs - first) xs ys)) (in_run p c r n) (λ _ d _. get_or zs (d - c) nan)
  changed_run xs ys zs p c r n first step is-first is-step i le wrote =
      let h = held xs in
      let after = put_mid first (length xs - first) xs ys in
      let limit = h.planes * rows * columns in
      let fits = planes_fit (length xs) columns rows in
      let start = order.below h p 0 r i in
      let long : length ys ≡ length xs - first = wrote.same_length ∙ grind (arith, places) in
      let same : length after ≡ length xs = grind (arith, places) in
      let at : (d : ℕ) → first + d * step ≡ place xs p d r = λ d. rw (is-first, is-step) (row_place xs p d r) in
      let inner : (k : ℕ) → k < n → inside h p (c + k) r ≡ true = λ k lt. grind (arith, nat_tests) in
      let later : (m : ℕ) → first ≤ m → get_or after m nan ≡ get_or ys (m - first) nan = λ m from. grind (arith, places) in
      let unchanged : (m : ℕ) → ((k : ℕ) → k < n → ¬ (m ≡ place xs p (c + k) r)) → get_or after m nan ≡ get_or xs m nan = λ m no. ⊎_elim
      (λ below. grind (arith, places))
      (λ above. let before : get_or (take (length xs - first) (drop first xs)) (m - first) nan ≡ get_or xs m nan = grind (arith, places) in
      later m above ∙ wrote.others (m - first) (λ k lt e. no k lt (omega (arith, at (c + k)))) ∙ before)
      (cases_lt m first) in
      changed_at xs after (in_run p c r n) (λ _ d _. get_or zs (d - c) nan) same
      (ext_get_or nan (drop limit after) (drop limit xs) (grind (arith, places)) (λ j lt. rw (get_or-drop limit after j nan, get_or-drop limit xs j nan) (unchanged (limit + j) (λ k lt e. let below = order.below h p (c + k) r (inner k lt) in omega arith))))
      (λ q d s j. cond_both (in_run p c r n q d s) (get_or zs (d - c) nan) (h.at q d s) (λ w. get_or after (place xs q d s) nan ≡ w)
      (λ e. let run = in_run_lem p c r n q d s e in
      let back : c + (d - c) ≡ d = omega arith in
      let column : first + d * step - first ≡ d * step = omega arith in
      rw (run.0, run.1, ← at d) (rw column at (later (first + d * step) (omega arith)) ∙ rw back at (wrote.written (d - c) (omega arith))))
      (λ e. unchanged (place xs q d s) (λ k lt same. let to = order.apart h q d s p (c + k) r j (inner k lt) same in
      let hit : in_run p c r n q d s ≡ true = rw (to.0, to.1, to.2) (grind (arith, nat_tests)) in
      absurd (cc (sym e, hit)))))
