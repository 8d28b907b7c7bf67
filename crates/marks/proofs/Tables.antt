-- One place of a list.
use Rattle.std.proofs.Common.{ℕ, List, set, refl}
use Rattle.std.proofs.lemmas.List.{length-set, get_or-set_other}
use Rattle.marks.specs.declared.mark.Cell.{Cell}
use Rattle.marks.specs.declared.mark.Cell.TheVariants.{Torn}
use Rattle.marks.specs.Table.{OnePlace}

pub one_set : (cs : List Cell) (i : ℕ) (c : Cell) → OnePlace cs (set cs i c)
one_set cs i c = record { long = length-set cs i c; place = i; others = λ j ne. get_or-set_other cs i j c Torn ne }

pub one_kept : (cs : List Cell) → OnePlace cs cs
one_kept cs = record { long = refl; place = 0; others = λ j ne. refl }
