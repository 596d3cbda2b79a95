-- The grid lines of frames stand at their frames.
use Rattle.std.proofs.Common.{◌≡◌, ℕ, ◌+◌, ◌-◌, ◌*◌, ◌/◌, ◌^◌, ◌<◌, ◌≤◌, ap, ◌∙◌, sym, arith}
use Rattle.std.proofs.Math.Nat.{mul-div-mul_right, mul_assoc, one-le-pow}
use Rattle.std.proofs.lemmas.Nat.{pow_below}
use Rattle.bp_charts.specs.declared.scale.Scale.{Scale}
use Rattle.bp_charts.specs.Scale.{halvings}
use Rattle.bp_charts.specs.Within.{HasItsNumbers}
use Rattle.bp_charts.proofs.Halvings.{halvings-from, halvings-top}

halvings-pow : (h : ℕ) → h < 64 → halvings (2 ^ h) ≡ h
halvings-pow h few =
    let some : 1 ≤ 2 ^ h = one-le-pow h 2 (omega arith) in
    let below : 2 ^ h < 2 ^ 64 = pow_below h 64 few in
    let least : h ≤ halvings (2 ^ h) = halvings-from h (2 ^ h) (omega arith) (omega (arith, some)) below in
    let top = halvings-top (2 ^ h) (omega (arith, some)) below in
    let most : h < halvings (2 ^ h) → ⊥ = λ (more : h < halvings (2 ^ h)). (let past = pow_below h (halvings (2 ^ h)) more in omega (arith, top.from, past)) in
    omega (arith, least, most)

at-power : (s : Scale) (step h p : ℕ) → h ≡ s.low + step → 0 < p
    → 800 + 6400 * step / s.doublings ≡ 800 + 6400 * ((h - s.low) * p + (p - p)) / (s.doublings * p)
at-power s step h p is some =
    let steps : (h - s.low) * p + (p - p) ≡ step * p = (let by : h - s.low ≡ step = omega (arith, is) in rw by (omega arith)) in
    let wide : 6400 * ((h - s.low) * p + (p - p)) ≡ 6400 * step * p = ap (λ k. 6400 * k) steps ∙ sym (mul_assoc 6400 step p) in
    ap (λ k. 800 + k) (sym (ap (λ k. k / (s.doublings * p)) wide ∙ mul-div-mul_right (6400 * step) s.doublings some))

pub has-its-numbers : (s : Scale) → HasItsNumbers s
has-its-numbers s step within few =
    let h = s.low + step in
    let some : 1 ≤ 2 ^ h = one-le-pow h 2 (omega arith) in
    let is : halvings (2 ^ h) ≡ h = halvings-pow h few in
    rw is (at-power s step h (2 ^ h) (omega arith) (omega (arith, some)))
