-- A ratio by cases; and where all ranks own the same it is exactly 1.0. Assumes nothing.
use Rattle.std.proofs.Common.{◌≡◌, ℕ, ◌*◌, ◌^◌, ◌<◌, ◌≤◌, Bool, true, false, cond, T, eqb, ◌≢◌, pos, sym, ap, ◌∙◌, ⊎_elim, le_trans, mul-le-mul_right, mul_assoc, mul_comm, eq-zero-or-pos, mul-le-mul_left, mul-pos, one-mul, mul-zero, zero-mul, mul-one, arith, lit<, ltb→lt, eq-eqb, ne_eqb}
use lib.Ieee.{Float, nan, inf, fin, Format, binary64, prec, up, down, round, div, of_int}
use lib.Ieee.Back.{round_whole}
use lib.Ieee.Fits.{up_pos}
use lib.Ieee.Positive.{num, den, positive, den_pos, value→cross, positive_of_value}
use lib.Ieee.Scale.{round_same}
use Rattle.telemetry.specs.Telemetry.{float, quotient, ratio}

pub ratio-none : (most all k : ℕ) → all ≡ 0 → ratio most all k ≡ float 1
unfolding ratio
ratio-none most all k h = rw (eq-eqb all 0 h)

pub ratio-some : (most all k : ℕ) → all ≢ 0 → ratio most all k ≡ quotient most all k
unfolding ratio
ratio-some most all k h = rw (ne_eqb all 0 h)

-- ---- a quotient of whole numbers

div_is : (f : Format) (x y : Float) → T (positive x) → T (positive y) → div f x y ≡ round f false (num x * den y) (num y * den x)
unfolding div
div_is f nan y p q = absurd p
div_is f (inf s) y p q = absurd p
div_is f (fin true m e) y p q = absurd p
div_is f (fin false m e) nan p q = absurd q
div_is f (fin false m e) (inf t) p q = absurd q
div_is f (fin false m e) (fin true n d) p q = absurd q
div_is f (fin false m e) (fin false n d) p q =
    ap (λ (b : Bool). cond b (cond (eqb m 0) nan (inf false)) (round f false (m * up e * down d) (n * up d * down e)))
    (ne_eqb n 0 (λ z. omega (arith, z, ltb→lt 0 n q)))

num_pos : (y : Float) → T (positive y) → 0 < num y
num_pos nan q = absurd q
num_pos (inf s) q = absurd q
num_pos (fin true m e) q = absurd q
num_pos (fin false m e) q = mul-pos (ltb→lt 0 m q) (up_pos e)

crossed : (X D Y E a b : ℕ) → X * 1 ≡ a * D → Y * 1 ≡ b * E → X * E * b ≡ a * (Y * D)
crossed X D Y E a b p q =
    let P : X ≡ a * D = sym (mul-one X) ∙ p in
    let Q : Y ≡ b * E = sym (mul-one Y) ∙ q in
    ap (λ (t : ℕ). t * E * b) P
    ∙ mul_assoc (a * D) E b
    ∙ mul_assoc a D (E * b)
    ∙ ap (λ (t : ℕ). a * t) (mul_comm D (E * b) ∙ ap (λ (t : ℕ). t * D) (mul_comm E b ∙ sym Q))

-- numbers that a float holds exactly: the float nearest to a / b
div-whole : (f : Format) (a b : ℕ) → 0 < a → 0 < b → a ≤ 2 ^ prec f → b ≤ 2 ^ prec f → div f (of_int f (pos a)) (of_int f (pos b)) ≡ round f false a b
unfolding of_int
div-whole f a b A B h k =
    let x = round f false a 1 in
    let y = round f false b 1 in
    let p = positive_of_value x a 1 (round_whole f false a h) A in
    let q = positive_of_value y b 1 (round_whole f false b k) B in
    div_is f x y p q
    ∙ round_same f false (num x * den y) (num y * den x) a b (mul-pos (num_pos y q) (den_pos x)) B
    (crossed (num x) (den x) (num y) (den y) a b (value→cross x a 1 (round_whole f false a h)) (value→cross y b 1 (round_whole f false b k)))

factors : (m k : ℕ) → 0 < m * k → (0 < m) × (0 < k)
factors m k h =
    ⊎_elim (λ z. absurd (omega (arith, ap (λ t. t * k) z ∙ zero-mul k))) (λ p.
    ⊎_elim (λ z. absurd (omega (arith, ap (λ t. m * t) z ∙ mul-zero m))) (λ q. (p, q)) (eq-zero-or-pos k)) (eq-zero-or-pos m)

-- ---- equal counts: both quotients are whole, and the second is 1

pub ratio-even : (c n k : ℕ) → n ≡ c * k → 0 < n → n ≤ 2 ^ 53 → ratio c n k ≡ float 1
unfolding of_int
ratio-even c n k e h l =
    let z = factors c k (rw e at h) in
    let C : c ≤ n = rw e (omega (arith, mul-le-mul_left c z.1, mul-one c)) in
    let K : k ≤ n = rw e (omega (arith, mul-le-mul_right k z.0, one-mul k)) in
    let average : div binary64 (float n) (float k) ≡ float c =
    div-whole binary64 n k h z.1 l (le_trans K l) ∙ round_same binary64 false n k c 1 z.1 (lit< tt) (mul-one n ∙ e) in
    ratio-some c n k (λ q. omega arith)
    ∙ ap (λ (y : Float). div binary64 (float c) y) average
    ∙ div-whole binary64 c c z.0 z.0 (le_trans C l) (le_trans C l)
    ∙ round_same binary64 false c c 1 1 z.0 (lit< tt) (mul_comm c 1)
