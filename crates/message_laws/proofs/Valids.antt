-- Fields that a message may have, part by part.
use Rattle.std.proofs.Common.{◌≡◌, ℕ, suc, ◌+◌, ◌^◌, ◌<◌, ◌≤◌, List, length, Some, None, Option, refl, arith}
use Rattle.items.specs.Reading.{containers}
use Rattle.items.specs.Trees.{Item, unsigned, bytes, map, Entries, no_entries, Within, EntriesWithin, Canonical}
use Rattle.items_laws.specs.Exact.{Fits}
use Rattle.items_laws.proofs.Inner.{within_more, value-canonical}
use Rattle.message.specs.Fields.{Fields, optionally, cmd_tree, meta_tree, message_tree, tree, AtMost, echo_in, Valid}
use Rattle.message_laws.proofs.Ways.{Given, optionally-size, optionally-few}
use Rattle.message_laws.proofs.Cmds.{Short, EchoGood}
use Rattle.message_laws.proofs.Views.{FieldsGood, MapGood}

at_most : (n : ℕ) (o : Option (List ℕ)) → AtMost n o → Given (λ bs. length bs ≤ n) o
at_most n None h = tt
at_most n (Some bs) h = h

given-most : (n : ℕ) (o : Option (List ℕ)) → Given (λ bs. length bs ≤ n) o → AtMost n o
given-most n None h = tt
given-most n (Some bs) h = h

echo-most : (meta : Option (Option (List ℕ))) → AtMost 32 (echo_in meta) → Given EchoGood meta
echo-most None h = tt
echo-most (Some echo) h = at_most 32 echo h

most-echo : (meta : Option (Option (List ℕ))) → Given EchoGood meta → AtMost 32 (echo_in meta)
most-echo None h = tt
most-echo (Some echo) h = given-most 32 echo h

exp-fits : (d : ℕ) (exp : Option ℕ) → EntriesWithin (optionally 3 unsigned exp no_entries) d → Given Fits exp
unfolding Within
exp-fits d None w = tt
exp-fits d (Some n) w = w.1

duo-fits : (d : ℕ) (duo : Option (List ℕ)) → EntriesWithin (optionally 2 bytes duo no_entries) d → Given Short duo
unfolding Within
duo-fits d None w = tt
duo-fits d (Some bs) w = w.1

ext-good : (f : Fields) → Canonical (tree f) → Given MapGood f.ext
ext-good f good = by f.meta f.ext refl good
  where
    by : (meta : Option (Option (List ℕ))) (ext : Option Entries) → f.ext ≡ f.ext → Canonical (message_tree (record { profile = f.profile; epoch = f.epoch; counter = f.counter; sid = f.sid; exp = f.exp; kind = f.kind; args = f.args; duo = f.duo; alg = f.alg; kid = f.kid; signature = f.signature; ctx = f.ctx; meta = meta; ext = ext }) (Some f.signature)) → Given MapGood ext
    by meta None e c = tt
    by None (Some es) e c = value-canonical _ 6 (map es) c refl
    by (Some echo) (Some es) e c = value-canonical _ 6 (map es) c refl

-- what may be is good in each part
pub valid-good : (f : Fields) → Valid f → FieldsGood f
unfolding Within
valid-good f v =
    let w = v.canonical.within.2 in
    let cmd = value-canonical _ 3 (cmd_tree f.kind f.args f.duo) v.canonical refl in
    record {
      profile = w.2.1;
      mid = record { epoch = w.2.2.1.2.1; counter = w.2.2.1.2.2.1; sid = v.sid; exp = exp-fits _ f.exp w.2.2.1.2.2.2.2 };
      cmd = record { kind = w.2.2.2.1.2.1; args = value-canonical _ 1 (map f.args) cmd refl; duo = duo-fits _ f.duo w.2.2.2.1.2.2.2 };
      auth = record { alg = record { least = v.alg.0; most = v.alg.1 }; kid = v.kid; signature = w.2.2.2.2.1.2.2.2.1; ctx = at_most 32 f.ctx v.ctx };
      meta = echo-most f.meta v.echo;
      ext = ext-good f v.canonical;
    }

-- and the other way round, where its tree may be
pub good-valid : (f : Fields) → FieldsGood f → Canonical (tree f) → Valid f
good-valid f g c = record {
  sid = g.mid.sid;
  kid = g.auth.kid;
  alg = (g.auth.alg.least, g.auth.alg.most);
  ctx = given-most 32 f.ctx g.auth.ctx;
  echo = most-echo f.meta g.meta;
  canonical = c;
}

optionally-within : {X : Type 0} (k : ℕ) (item : X → Item) (o : Option X) (es : Entries) (d : ℕ) → k < 2 ^ 64 → Given (λ x. Within (item x) d) o → EntriesWithin es d → EntriesWithin (optionally k item o es) d
unfolding Within
optionally-within k item None es d small g w = w
optionally-within k item (Some x) es d small g w = (small, g, w)

given-map : {X : Type 0} {P Q : X → Type 0} → ((x : X) → P x → Q x) → (o : Option X) → Given P o → Given Q o
given-map so None g = tt
given-map so (Some x) g = so x g

-- a tree of good parts is within some limits
pub tree-within : (f : Fields) → FieldsGood f → Within (tree f) 40
unfolding Within
tree-within f g =
    let ext = optionally-within 6 map f.ext no_entries 39 (omega arith) (given-map (λ es c. within_more (map es) containers 39 (omega arith) c.within) f.ext g.ext) tt in
    let meta = optionally-within 5 meta_tree f.meta (optionally 6 map f.ext no_entries) 39 (omega arith) (given-map (λ echo c. meta-within echo c) f.meta g.meta) ext in
    let exp = optionally-within 3 unsigned f.exp no_entries 38 (omega arith) g.mid.exp tt in
    let duo = optionally-within 2 bytes f.duo no_entries 38 (omega arith) g.cmd.duo tt in
    let ctx = optionally-within 3 bytes f.ctx no_entries 38 (omega arith) (given-map (λ bs h. short bs 32 h (omega arith)) f.ctx g.auth.ctx) tt in
    let args = within_more (map f.args) containers 38 (omega arith) g.cmd.args.within in
    let top = optionally-size 5 meta_tree f.meta (optionally 6 map f.ext no_entries) in (
      few5 _ _ _ top (optionally-few 5 meta_tree f.meta) (optionally-few 6 map f.ext),
      omega arith,
      (
        omega arith,
        omega arith,
        (
          omega arith,
          g.profile,
          (
            omega arith,
            (few3 _ (optionally-few 3 unsigned f.exp), omega arith, (omega arith, g.mid.epoch, (omega arith, g.mid.counter, (omega arith, sixteen f.sid g.mid.sid, exp)))),
            (
              omega arith,
              (few2 _ (optionally-few 2 bytes f.duo), omega arith, (omega arith, g.cmd.kind, (omega arith, args, duo))),
              (
                omega arith,
                (few3 _ (optionally-few 3 bytes f.ctx), omega arith, (omega arith, alg-fits g.auth.alg.most, (omega arith, sixteen f.kid g.auth.kid, (omega arith, g.auth.signature, ctx)))),
                meta,
              ),
            ),
          ),
        ),
      ),
    )
  where
    short : (bs : List ℕ) (n : ℕ) → length bs ≤ n → n < 2 ^ 64 → length bs < 2 ^ 64
    short bs n a b = omega arith

    sixteen : (bs : List ℕ) → length bs ≡ 16 → length bs < 2 ^ 64
    sixteen bs e = omega arith

    alg-fits : {n : ℕ} → n ≤ 3 → n < 2 ^ 64
    alg-fits h = omega arith

    few5 : (k m n : ℕ) → k ≡ m + n → m ≤ 1 → n ≤ 1 → suc (suc (suc (suc (suc k)))) ≤ 64
    few5 k m n e a b = omega arith

    few3 : (k : ℕ) → k ≤ 1 → suc (suc (suc k)) ≤ 64
    few3 k h = omega arith

    few2 : (k : ℕ) → k ≤ 1 → suc (suc k) ≤ 64
    few2 k h = omega arith

    few0 : (k : ℕ) → k ≤ 1 → k ≤ 64
    few0 k h = omega arith

    meta-within : (echo : Option (List ℕ)) → EchoGood echo → Within (meta_tree echo) 39
    meta-within echo c = (few0 _ (optionally-few 0 bytes echo), omega arith, optionally-within 0 bytes echo no_entries 38 (omega arith) (given-map (λ bs h. short bs 32 h (omega arith)) echo c) tt)
