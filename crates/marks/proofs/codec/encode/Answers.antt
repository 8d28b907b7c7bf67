use Rattle.std.proofs.Common.{◌≡◌, length, sym, ap, ◌∙◌, rules}
use Rattle.marks.specs.Octets.{cell_of, Sized}
use Rattle.marks.proofs.Images.{cell-encoded}
use Rattle.marks.proofs.Filling.{filled, five}
use Rattle.marks.proofs.codec.encode.Goals as goal

pub returns : goal.returns
returns c =
    let r = c.args.new in
    let s1 : length c.copy_from_slice.new.self ≡ 16 = search rules in
    let s2 : length c.copy_from_slice-2.new.self ≡ 16 = search rules in
    let s3 : length c.copy_from_slice-3.new.self ≡ 8 = search rules in
    let s4 : length c.copy_from_slice-4.new.self ≡ 8 = search rules in
    let s5 : length c.copy_from_slice-5.new.self ≡ 32 = search rules in
    let e1 = c.copy_from_slice.ensures.after in
    let e2 = c.copy_from_slice-2.ensures.after in
    let e5 = c.copy_from_slice-5.ensures.after in
    let done = filled c.args.cell.now c.copy_from_slice.new.self c.copy_from_slice-2.new.self c.copy_from_slice-3.new.self c.copy_from_slice-4.new.self c.copy_from_slice-5.new.self c.requires s1 s2 s3 s4 s5
    ∙ five e1 e2 (c.copy_from_slice-3.ensures.after ∙ c.to_be_bytes.ensures) (c.copy_from_slice-4.ensures.after ∙ c.to_be_bytes-2.ensures) e5 in
    let z : Sized r = record { sid = sym (ap length e1) ∙ s1; kid = sym (ap length e2) ∙ s2; hash = sym (ap length e5) ∙ s5; epoch = search rules; counter = search rules } in
    record { octets = done; reads = ap cell_of done ∙ cell-encoded r z; sized = z }
