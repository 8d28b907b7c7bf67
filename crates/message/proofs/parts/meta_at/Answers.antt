use Rattle.std.proofs.Common.{sym, ◌∙◌, arith}
use Rattle.message.specs.Entries.{context_at}
use Rattle.message.proofs.Bounds.{map_on, context_on, optional-on, ended_is}
use Rattle.message.proofs.parts.meta_at.Goals as goal

-- the entries end behind the head of the map
pub overflow_sub-span : goal.overflow_sub-span
overflow_sub-span c =
    let opens = map_on _ _ _ _ _ c.in_ok-entries.ensures.1 in
    let goes = optional-on _ context_at context_on c.in_ok-entries.entries c.optional.new.self _ c.in_ok-echo.ensures in
    let ends = ended_is _ _ _ (sym c.end.ensures ∙ c.in_ok-behind.was) in
    omega (arith, opens.on, goes, ends.1)
