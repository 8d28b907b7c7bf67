use Rattle.std.proofs.Common.{sym, ◌∙◌}
use Rattle.text.proofs.Steps.{ascii_text, ended}
use Rattle.text.proofs.Agrees.{text-is_utf8}
use Rattle.text.proofs.is_text.Goals as goal

pub returns-then-is_ascii : goal.returns-then-is_ascii
returns-then-is_ascii c = record { is = sym (ascii_text _ c.if-is_ascii.ensures.cases); utf8 = text-is_utf8 }

pub returns-in_default-behind_tails-clause-utf8 : goal.returns-in_default-behind_tails-clause-utf8
returns-in_default-behind_tails-clause-utf8 c = text-is_utf8

pub returns : goal.returns
returns c = record { is = sym (ended _ c.in_default.ensures.cases) ∙ c.loop-first.invariant; utf8 = text-is_utf8 }
