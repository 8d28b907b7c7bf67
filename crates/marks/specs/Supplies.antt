-- What a write costs of the power that cells are supplied with, and what switching on gives.
use Rattle.std.specs.Prelude.{◌≡◌, ℕ, ◌+◌, true, false}
use Rattle.marks.specs.declared.mark.CutLeaves.{CutLeaves}
use Rattle.marks.specs.declared.mark.CutLeaves.TheVariants.{New}
use Rattle.marks.specs.declared.mark.Written.{Written}
use Rattle.marks.specs.declared.mark.Written.TheVariants.{Off, Outside, Cut, Done}
use Rattle.marks.specs.declared.power.Power.{Power}

-- the charge is used up: power goes off, and the cell is as a cut leaves it
pub record CutOff (p : Power) (v : CutLeaves) (q : Power) : Type 0 where
  pub empty : p.charge ≡ 0
  pub left : v ≡ p.leaves
  pub off : q.on ≡ false
  pub spent : q.charge ≡ 0
  pub leaves : q.leaves ≡ p.leaves

-- the new record is left, for one unit of charge
pub record Paid (p : Power) (v : CutLeaves) (q : Power) : Type 0 where
  pub left : v ≡ New
  pub paid : p.charge ≡ q.charge + 1
  pub still : q.on ≡ p.on
  pub leaves : q.leaves ≡ p.leaves

-- how a write that begins with power p ends, what it leaves in its cell, and the power after it
abbrev pub Spent : Power → Written → CutLeaves → Power → Type 0
Spent p Off v q = ⊥
Spent p Outside v q = ⊥
Spent p Cut v q = CutOff p v q
Spent p Done v q = Paid p v q

-- on for n whole writes; what a cut leaves stays
abbrev pub switched_on : ℕ → Power → Power
switched_on n p = record { on = true; charge = n; leaves = p.leaves }
