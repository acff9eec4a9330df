-- How a call came out.
use Rattle.causes.specs.declared.Refusal.{Refusal}

pub data Outcome : Type 0 where
  Done : Outcome
  NoneDue : Outcome
  Refused : Refusal → Outcome
