use Rattle.std.proofs.Common.{◌≡◌, true, false, rules}
use Rattle.std.proofs.lemmas.Iterator.{first_from_Range}
use Rattle.journal.specs.Journals.{is_free}
use Rattle.journal.proofs.Choosing.{Found, found}
use Rattle.journal.proofs.journal.Journal.find_free.Goals as goal

pub returns : goal.returns
returns g c =
    let cs = (g.C.Cells.device c.args.self.now.cells).cells in
    let f : Found cs c.args.a c.args.e c.find.result = first_from_Range _ _ _ _ (λ k. is_free cs k ≡ true) (λ k. is_free cs k ≡ false) c.find.ensures.ran (λ k q t. search (rules, t)) (λ k q t. search (rules, t)) in
    found cs _ _ _ f
