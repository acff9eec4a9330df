-- A refusal handed on by `?` is the refusal that was met; what a test that a call asks for came to.
use Rattle.std.proofs.Common.{◌≡◌, ◌∙◌, ap, sym, refl, ℕ, arith, Bool, true, false, Result, Ok, Err, IsErrAnd}
use Rattle.std.proofs.lemmas.Result.{err_from_is_err_and}
use Rattle.causes.specs.declared.Refusal.{Refusal}
use Rattle.causes.specs.Causes.{passes}

pub handed-on : {T : Type 0} (r : Result T Refusal) (c : Refusal) → IsErrAnd r (λ y. y ≡ c) → r ≡ Err c
handed-on r c h = let p = err_from_is_err_and r h in p.1 ∙ ap Err p.2

pub passed : (b : Bool) (c : Refusal) (u : Unit {0}) → passes b c ≡ Ok u → b ≡ true
passed true c u e = refl
passed false c u e = let z : ◌≡◌ {A = ℕ} 0 1 = cc in absurd (omega arith)

pub stopped : (b : Bool) (c d : Refusal) → passes b c ≡ Err d → (b ≡ false) × (d ≡ c)
stopped true c d e = let z : ◌≡◌ {A = ℕ} 0 1 = cc in absurd (omega arith)
stopped false c d e = let z : c ≡ d = cc in (refl, sym z)
