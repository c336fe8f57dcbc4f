-- Windows of one width, one after another.
use Rattle.std.proofs.Common.{◌≡◌, ◌⊎◌, ℕ, zero, suc, ◌+◌, ◌*◌, ◌<◌, ◌≤◌, inl, inr, arith, suc-mul}
use Rattle.std.proofs.Math.Nat.{le-div_iff_mul-le, le-mul_of_pos_right}
use Rattle.std.proofs.lemmas.Bool.{cases_lt}
use Rattle.window_workers.specs.MarkedBounds.{bound, windows_of, AreWindows}
use Rattle.window_workers.specs.WindowLength.{end_of_window}

pub at_first : (width end : ℕ) → bound width end 0 ≡ 0
at_first width end = omega arith

module _ (width end windows : ℕ) (are : AreWindows width end windows) where
  pub begins_before : (k : ℕ) → k < windows → bound width end k < bound width end (suc k)
  begins_before k h =
      let b = are.begin k h in
      let w = are.wide in
      let m = suc-mul k width in
      omega arith

  pub no_wider : (k : ℕ) → k < windows → bound width end (suc k) ≤ bound width end k + width
  no_wider k h =
      let b = are.begin k h in
      let m = suc-mul k width in
      omega arith

  pub at_the_end : bound width end windows ≡ suc end
  at_the_end = let r = are.reach in omega arith

  -- a window that begins no later than the end is one of the windows
  pub goes_on : (k : ℕ) → k ≤ windows → bound width end k ≤ end → k < windows
  goes_on k le early = of_case (cases_lt k windows)
    where
      of_case : (k < windows) ⊎ (windows ≤ k) → k < windows
      of_case (inl h) = h
      of_case (inr h) =
          let same : k ≡ windows = omega arith in
          let last = at_the_end in
          absurd (let e = rw same at early in omega arith)

  -- after the end, no window is left
  pub over : (k : ℕ) → k ≤ windows → end < bound width end k → k ≡ windows
  over k le late = of_case (cases_lt k windows)
    where
      of_case : (k < windows) ⊎ (windows ≤ k) → k ≡ windows
      of_case (inl h) = let b = are.begin k h in absurd (omega arith)
      of_case (inr h) = omega arith

  pub next_bound : (k : ℕ) → k < windows → end_of_window end width (bound width end k) ≡ bound width end (suc k)
  next_bound k h =
      let b = are.begin k h in
      let m = suc-mul k width in
      omega arith

  -- later windows end later
  pub no_sooner : (k m : ℕ) → k + m < windows → bound width end (suc k) ≤ bound width end (suc (k + m))
  no_sooner k zero h = let e : k + zero ≡ k = omega arith in rw e (omega arith)
  no_sooner k (suc m) h =
      let e : k + suc m ≡ suc (k + m) = omega arith in
      let before = no_sooner k m (omega arith) in
      let next = begins_before (suc (k + m)) (omega arith) in
      rw e (omega arith)

-- there are this many windows
pub are_windows : (width end : ℕ) → 0 < width → AreWindows width end (windows_of width end)
are_windows width end wide = record {
  wide = wide;
  begin = λ k low.
      let m = suc-mul k width in
      let fits = (le-div_iff_mul-le {k = width} {x = suc k} {y = end + width} wide).0 (omega arith) in
      omega arith;
  reach = of_case (cases_lt end (windows_of width end * width));
}
  where
    of_case : (end < windows_of width end * width) ⊎ (windows_of width end * width ≤ end) → end < windows_of width end * width
    of_case (inl h) = h
    of_case (inr h) =
        let m = suc-mul (windows_of width end) width in
        let one_more : suc (windows_of width end) ≤ windows_of width end = (le-div_iff_mul-le {k = width} {x = suc (windows_of width end)} {y = end + width} wide).1 (omega arith) in
        absurd (omega arith)
