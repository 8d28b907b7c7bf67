use Rattle.std.proofs.Common.{◌≡◌, ◌+◌, ◌-◌, ◌*◌, ◌/◌, ◌<◌, length, set, sym, refl, ap, ◌∙◌, subst, arith, rules}
use borrow.Rule.Slice.PartMut.{put_mid}
use borrow.Rule.Slice.Mut.{set_vals}
use Rattle.marks.specs.declared.image.ImageCells.{ImageCells}
use Rattle.marks.specs.Device.{cells_cut}
use Rattle.marks.specs.Octets.{cells_in, image_cut, StoredOctets, EachCut, ImageTouched}
use Rattle.marks.proofs.Images.{cells-length, cells-put, cells-torn, put_cell_lem, one-put, one-torn, one_same, stored, torn}
use Rattle.marks.proofs.Spending.{spent_writes, spent_moves, spent_leaves, spent_image, spent_each}
use Rattle.marks.proofs.image.ImageCellsCells.write.Goals as goal

pub overflow_mul-at : goal.overflow_mul-at
overflow_mul-at c = omega (arith, cells-length c.args.self.now.image.now, c.count.ensures)

pub overflow_add-at : goal.overflow_add-at
overflow_add-at c = omega (arith, cells-length c.args.self.now.image.now, c.count.ensures)

pub slice_bounds-encode-end : goal.slice_bounds-encode-end
slice_bounds-encode-end c = search (rules, cells-length c.args.self.now.image.now, c.count.ensures)

pub bounds-self-at : goal.bounds-self-at
bounds-self-at c = omega (arith, cells-length c.args.self.now.image.now, c.count.ensures)

pub returns-in-Old-clause-memory : goal.returns-in-Old-clause-memory
returns-in-Old-clause-memory c =
    let m = c.args.self.now.image.now in
    let i = c.args.i in
    let p = c.args.self.now.power in
    let q = c.spend-written.new.self in
    let w = c.spend-written.result.0 in
    let s = c.spend-written.ensures in
    let n : i < length m / 81 = omega (arith, cells-length m, c.count.ensures) in
    let image = ap (λ v. image_cut v i c.args.new m) (sym c.in-Old.is) ∙ spent_image w p q _ i c.args.new m s in
    let t : ImageTouched c.args.self.now.image p c.args.self.now.image q = record { lender = refl; leaves = spent_leaves w p q _ s; octets = one_same m i n; written = record { answer = w; cell = i; new = c.args.new; after = image } } in
    spent_moves {X = ImageCells} (λ s t. ImageTouched s.image s.power t.image t.power) c.args.self.now _ w p q _ s t

pub returns-in-New : goal.returns-in-New
returns-in-New c =
    let m = c.args.self.now.image.now in
    let i = c.args.i in
    let p = c.args.self.now.power in
    let q = c.spend-written.new.self in
    let w = c.spend-written.result.0 in
    let s = c.spend-written.ensures in
    let n : i < length m / 81 = omega (arith, cells-length m, c.count.ensures) in
    let h : i < length (cells_in m) = omega (arith, c.count.ensures) in
    let k : i * 81 + 81 - i * 81 ≡ 81 = omega arith in
    let ys = c.encode.new.cell in
    let l : length ys ≡ 81 = search rules in
    let is = sym c.in-New.is in
    let same = put_cell_lem m i _ k c.encode.ensures.octets in
    let image = same ∙ ap (λ v. image_cut v i c.args.new m) is ∙ spent_image w p q _ i c.args.new m s in
    let t : ImageTouched c.args.self.now.image p (set_vals (put_mid (i * 81) (i * 81 + 81 - i * 81) m ys) c.args.self.now.image) q = record { lender = refl; leaves = spent_leaves w p q _ s; octets = one-put m ys i _ n k l; written = record { answer = w; cell = i; new = c.args.new; after = image } } in
    record {
      writes = spent_writes w p q _ i c.args.new (cells_in m) _ s (search rules) h (cells-put m ys i _ _ n k l c.encode.ensures.reads ∙ ap (λ v. cells_cut v i c.args.new (cells_in m)) is);
      memory = spent_moves {X = ImageCells} (λ s t. ImageTouched s.image s.power t.image t.power) c.args.self.now _ w p q _ s t;
      octets = image;
      each = spent_each w p q _ i c.args.new m _ s (subst (λ v. EachCut v i c.args.new m (put_mid (i * 81) (i * 81 + 81 - i * 81) m ys)) is (subst (λ x. StoredOctets x i c.args.new) (sym same) (stored c.args.new c.encode.ensures.sized m i n)));
    }

pub returns-in-Torn : goal.returns-in-Torn
returns-in-Torn c =
    let m = c.args.self.now.image.now in
    let i = c.args.i in
    let p = c.args.self.now.power in
    let q = c.spend-written.new.self in
    let w = c.spend-written.result.0 in
    let s = c.spend-written.ensures in
    let n : i < length m / 81 = omega (arith, cells-length m, c.count.ensures) in
    let h : i < length (cells_in m) = omega (arith, c.count.ensures) in
    let is = sym c.in-Torn.is in
    let image = ap (λ v. image_cut v i c.args.new m) is ∙ spent_image w p q _ i c.args.new m s in
    let t : ImageTouched c.args.self.now.image p (set_vals (set m (i * 81) 255) c.args.self.now.image) q = record { lender = refl; leaves = spent_leaves w p q _ s; octets = one-torn m i n; written = record { answer = w; cell = i; new = c.args.new; after = image } } in
    record {
      writes = spent_writes w p q _ i c.args.new (cells_in m) _ s (search rules) h (cells-torn m i n ∙ ap (λ v. cells_cut v i c.args.new (cells_in m)) is);
      memory = spent_moves {X = ImageCells} (λ s t. ImageTouched s.image s.power t.image t.power) c.args.self.now _ w p q _ s t;
      octets = image;
      each = spent_each w p q _ i c.args.new m _ s (subst (λ v. EachCut v i c.args.new m (set m (i * 81) 255)) is (torn m i n));
    }
