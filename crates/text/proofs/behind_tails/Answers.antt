use Rattle.std.proofs.Common.{rules, arith}
use Rattle.std.proofs.lemmas.List.{length-drop}
use Rattle.std.proofs.lemmas.Grind.{common_steps}
use Rattle.text.proofs.Steps.{no_lead, cut, behind, no_tails, one_tail, two_tails, three_tails}
use Rattle.text.proofs.behind_tails.Goals as goal

pub returns-in_err-tails_of : goal.returns-in_err-tails_of
returns-in_err-tails_of c = search (rules, no_lead)

pub returns-in-0-default : goal.returns-in-0-default
returns-in-0-default c = grind (arith, common_steps, no_tails)

pub returns-in-1-len1-up : goal.returns-in-1-len1-up
returns-in-1-len1-up c = grind (arith, common_steps, one_tail, behind, length-drop)

pub returns-in-2-len2-up : goal.returns-in-2-len2-up
returns-in-2-len2-up c = grind (arith, common_steps, two_tails, behind, length-drop)

pub returns-in-3-len3-up : goal.returns-in-3-len3-up
returns-in-3-len3-up c = grind (arith, common_steps, three_tails, behind, length-drop)

pub returns-in_default : goal.returns-in_default
returns-in_default c = search (rules, no_lead, cut, one_tail, two_tails, three_tails)
