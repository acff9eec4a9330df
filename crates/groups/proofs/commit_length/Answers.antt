use native.Mathlib.Omega.{arith}
use mathlib.Core.Path.{refl}
use borrow.Author.Rules.{rules}
use Rattle.groups.specs.Groups.{commit_length, scalar_length, element_length}
use Rattle.groups.proofs.commit_length.Goals as goal

pub returns-in-19 : goal.returns-in-19
unfolding commit_length scalar_length element_length
returns-in-19 c = (rw c.in-19.is refl, omega arith)

pub returns-in-20 : goal.returns-in-20
unfolding commit_length scalar_length element_length
returns-in-20 c = (rw c.in-20.is refl, omega arith)

pub returns-in-21 : goal.returns-in-21
unfolding commit_length scalar_length element_length
returns-in-21 c = (rw c.in-21.is refl, omega arith)

pub returns-in_default : goal.returns-in_default
unfolding commit_length scalar_length element_length
returns-in_default c = (search rules, omega arith)
