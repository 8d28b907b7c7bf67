-- What a write does, from the power that it spends and what it leaves in its cell.
use Rattle.std.proofs.Common.{◌≡◌, ℕ, ◌<◌, true, List, length, ap, ◌∙◌, subst}
use Rattle.marks.specs.declared.mark.Cell.{Cell}
use Rattle.marks.specs.declared.mark.Record.{Record}
use Rattle.marks.specs.declared.mark.CutLeaves.{CutLeaves}
use Rattle.marks.specs.declared.mark.Written.{Written}
use Rattle.marks.specs.declared.mark.Written.TheVariants.{Off, Outside, Cut, Done}
use Rattle.marks.specs.declared.power.Power.{Power}
use Rattle.marks.specs.Supplies.{Spent}
use Rattle.marks.specs.Device.{device_of, cells_cut, cells_after, Writes, WriteMoves}
use Rattle.marks.specs.Octets.{image_cut, image_after, EachCut, EachOctet}

pub spent_writes : (w : Written) (p q : Power) (v : CutLeaves) (i : ℕ) (r : Record) (cs ds : List Cell) → Spent p w v q → p.on ≡ true → i < length cs → ds ≡ cells_cut v i r cs → Writes (device_of cs p.on p.charge) i r w (device_of ds q.on q.charge)
spent_writes Off p q v i r cs ds s on h e = absurd s
spent_writes Outside p q v i r cs ds s on h e = absurd s
spent_writes Cut p q v i r cs ds s on h e = (v, record { powered = on; inside = h; empty = s.empty; after = e; off = s.off; spent = s.spent })
spent_writes Done p q v i r cs ds s on h e = record { powered = on; inside = h; paid = s.paid; after = e ∙ ap (λ x. cells_cut x i r cs) s.left; still = s.still ∙ on }

pub spent_moves : {X : Type 0} (touches : X → X → Type 0) (a b : X) (w : Written) (p q : Power) (v : CutLeaves) → Spent p w v q → touches a b → WriteMoves touches a w b
spent_moves touches a b Off p q v s t = absurd s
spent_moves touches a b Outside p q v s t = absurd s
spent_moves touches a b Cut p q v s t = t
spent_moves touches a b Done p q v s t = t

pub spent_leaves : (w : Written) (p q : Power) (v : CutLeaves) → Spent p w v q → q.leaves ≡ p.leaves
spent_leaves Off p q v s = absurd s
spent_leaves Outside p q v s = absurd s
spent_leaves Cut p q v s = s.leaves
spent_leaves Done p q v s = s.leaves

pub spent_cells : (w : Written) (p q : Power) (v : CutLeaves) (i : ℕ) (r : Record) (cs : List Cell) → Spent p w v q → cells_cut v i r cs ≡ cells_after w p.leaves i r cs
spent_cells Off p q v i r cs s = absurd s
spent_cells Outside p q v i r cs s = absurd s
spent_cells Cut p q v i r cs s = ap (λ x. cells_cut x i r cs) s.left
spent_cells Done p q v i r cs s = ap (λ x. cells_cut x i r cs) s.left

pub spent_image : (w : Written) (p q : Power) (v : CutLeaves) (i : ℕ) (r : Record) (m : List ℕ) → Spent p w v q → image_cut v i r m ≡ image_after w p.leaves i r m
spent_image Off p q v i r m s = absurd s
spent_image Outside p q v i r m s = absurd s
spent_image Cut p q v i r m s = ap (λ x. image_cut x i r m) s.left
spent_image Done p q v i r m s = ap (λ x. image_cut x i r m) s.left

pub spent_each : (w : Written) (p q : Power) (v : CutLeaves) (i : ℕ) (r : Record) (m m' : List ℕ) → Spent p w v q → EachCut v i r m m' → EachOctet w p.leaves i r m m'
spent_each Off p q v i r m m' s e = absurd s
spent_each Outside p q v i r m m' s e = absurd s
spent_each Cut p q v i r m m' s e = subst (λ x. EachCut x i r m m') s.left e
spent_each Done p q v i r m m' s e = subst (λ x. EachCut x i r m m') s.left e
