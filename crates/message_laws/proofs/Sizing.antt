-- The sizes of a message, on its fields.
use Rattle.std.proofs.Common.{◌≡◌, ℕ, suc, ◌+◌, ◌-◌, ◌^◌, ◌<◌, ◌≤◌, Bool, true, false, ◌&&◌, leb, List, ◌∷◌, ◌++◌, length, Some, None, Option, sym, refl, ap, ◌∙◌, append_assoc, append-nil, arith, length-append}
use Rattle.std.proofs.Math.Bool.{and_assoc, and-true}
use Rattle.items.specs.Trees.{unsigned, bytes, map, Entries, no_entries, head_of, encoding, entries_encoding, total, entries_total, Within, EntriesWithin}
use Rattle.items_laws.proofs.Unique.{whole-at}
use Rattle.items_laws.proofs.Written.{at_left, at_right}
use Rattle.message.specs.declared.types.Meta.{Meta}
use Rattle.message.specs.declared.types.View.{View}
use Rattle.message.specs.Fields.{Fields, entry, optionally, mid_tree, cmd_tree, meta_tree, tree, unsigned_tree, Valid, strings_short, entries_short, meta_small, Sizes}
use Rattle.message.specs.Sizes.{message_most, args_most, meta_most, meta_fits, strings_fit, before_signature, behind_signature, sizes_fit}
use Rattle.message.proofs.Scans.{fit_past}
use Rattle.message_laws.specs.Shows.{Both, MetaShows, Shows}
use Rattle.message_laws.proofs.Auths.{bare, front, signed}
use Rattle.message_laws.proofs.Views.{auth_of, before, size, size_small, Laid}
use Rattle.message_laws.proofs.Splices.{before-is, behind-is, one_more, behind, tree_shape}
use Rattle.message_laws.proofs.Scanning.{fit_head, fit_entries}

-- the entries before auth, those of auth before the signature, that behind it, and those behind auth
abbrev firsts : Fields → Entries
firsts f = entry 0 (unsigned 1) (entry 1 (unsigned f.profile) (entry 2 (mid_tree f.epoch f.counter f.sid f.exp) (entry 3 (cmd_tree f.kind f.args f.duo) no_entries)))

abbrev ids : Fields → Entries
ids f = entry 0 (unsigned f.alg) (entry 1 (bytes f.kid) no_entries)

abbrev contexts : Fields → Entries
contexts f = optionally 3 bytes f.ctx no_entries

abbrev lasts : Fields → Entries
lasts f = optionally 5 meta_tree f.meta (optionally 6 map f.ext no_entries)

-- heads and entries one behind the other
abbrev joined : ℕ → ℕ → ℕ → Entries → Entries → List ℕ
joined n m k es us = head_of 5 n ++ (entries_encoding es ++ (head_of 0 k ++ (head_of 5 m ++ entries_encoding us)))

module _ (n m k : ℕ) (es us : Entries) (d c : ℕ) (n-fits : n < 2 ^ 64) (m-fits : m < 2 ^ 64) (k-fits : k < 2 ^ 64) (es-in : EntriesWithin es d) (us-in : EntriesWithin us c) (few : 3 + entries_total es + entries_total us ≤ 1024) where
  abbrev line : List ℕ
  line = joined n m k es us

  front_scan : strings_fit 1024 (joined n m k es us) 0 ≡ (entries_short es && entries_short us)
  front_scan =
      let left : ℕ = 1024 - (3 + entries_total es + entries_total us) in
      let fuel : 1024 ≡ suc (entries_total es + suc (suc (entries_total us + left))) = omega arith in
      let a = whole-at line line refl in
      let p₁ : ℕ = 0 + length (head_of 5 n) in
      let p₂ : ℕ = p₁ + length (entries_encoding es) in
      let p₃ : ℕ = p₂ + length (head_of 0 k) in
      let p₄ : ℕ = p₃ + length (head_of 5 m) in
      let a₁ = at_right line 0 (head_of 5 n) _ a in
      let a₂ = at_right line p₁ (entries_encoding es) _ a₁ in
      let a₃ = at_right line p₂ (head_of 0 k) _ a₂ in
      let a₄ = at_right line p₃ (head_of 5 m) _ a₃ in
      let end : length line ≡ p₄ + length (entries_encoding us) = lengths (head_of 5 n) (entries_encoding es) (head_of 0 k) (head_of 5 m) (entries_encoding us) in
      ap (λ j. strings_fit j line 0) fuel
      ∙ fit_head line 0 5 n _ n-fits (λ e. omega arith) (λ e. omega arith) (at_left line 0 (head_of 5 n) _ a)
      ∙ fit_entries line es p₁ _ d es-in (at_left line p₁ (entries_encoding es) _ a₁)
      ∙ ap (λ b. entries_short es && b)
      (fit_head line p₂ 0 k _ k-fits (λ e. omega arith) (λ e. omega arith) (at_left line p₂ (head_of 0 k) _ a₂)
      ∙ fit_head line p₃ 5 m _ m-fits (λ e. omega arith) (λ e. omega arith) (at_left line p₃ (head_of 5 m) _ a₃)
      ∙ fit_entries line us p₄ left c us-in a₄
      ∙ ap (λ b. entries_short us && b) (fit_past line _ left (omega arith))
      ∙ and-true (entries_short us))
    where
      lengths : (a b c d e : List ℕ) → length (a ++ (b ++ (c ++ (d ++ e)))) ≡ 0 + length a + length b + length c + length d + length e
      lengths a b c d e = simp length-append (omega arith)

module _ (es us : Entries) (d c : ℕ) (es-in : EntriesWithin es d) (us-in : EntriesWithin us c) (few : entries_total es + entries_total us ≤ 1024) where
  back_scan : strings_fit 1024 (entries_encoding es ++ entries_encoding us) 0 ≡ (entries_short es && entries_short us)
  back_scan =
      let line : List ℕ = entries_encoding es ++ entries_encoding us in
      let left : ℕ = 1024 - (entries_total es + entries_total us) in
      let fuel : 1024 ≡ entries_total es + (entries_total us + left) = omega arith in
      let a = whole-at line line refl in
      let p₁ : ℕ = 0 + length (entries_encoding es) in
      ap (λ j. strings_fit j line 0) fuel
      ∙ fit_entries line es 0 _ d es-in (at_left line 0 (entries_encoding es) _ a)
      ∙ ap (λ b. entries_short es && b)
      (fit_entries line us p₁ left c us-in (at_right line 0 (entries_encoding es) _ a)
      ∙ ap (λ b. entries_short us && b) (fit_past line _ left (omega (arith, length-append (entries_encoding es) (entries_encoding us))))
      ∙ and-true (entries_short us))

front-shape : (f : Fields) → before f (size f) ++ ((161 + bare f.ctx) ∷ front (auth_of f)) ≡ joined (size f) (suc (bare f.ctx)) 4 (firsts f) (ids f)
unfolding encoding
front-shape f = rw (one_more f.ctx) (simp (append_assoc, append-nil))

bare-small : (ctx : Option (List ℕ)) → suc (bare ctx) < 2 ^ 64
bare-small None = omega arith
bare-small (Some bs) = omega arith

-- the strings of what is signed, sorted by where they stand
sorted : (m c k x y : Bool) → ((m && (c && true)) && (k && true)) && (x && y) ≡ (m && (c && ((k && x) && y)))
sorted true true true x y = refl
sorted true true false x y = refl
sorted true false k x y = refl
sorted false c k x y = refl

short-split : (f : Fields) → (entries_short (firsts f) && entries_short (ids f)) && (entries_short (contexts f) && entries_short (lasts f)) ≡ strings_short (unsigned_tree f)
unfolding strings_short
short-split f = sorted (strings_short (mid_tree f.epoch f.counter f.sid f.exp)) (strings_short (cmd_tree f.kind f.args f.duo)) (strings_short (bytes f.kid)) (entries_short (contexts f)) (entries_short (lasts f))

few-front : (f : Fields) → total (tree f) ≤ 1024 → 3 + entries_total (firsts f) + entries_total (ids f) ≤ 1024
unfolding total
few-front f h = omega arith

few-back : (f : Fields) → total (tree f) ≤ 1024 → entries_total (contexts f) + entries_total (lasts f) ≤ 1024
unfolding total
few-back f h = omega arith

strings-law : (os : List ℕ) (v : View) (f : Fields) → Valid f → encoding (tree f) ≡ os → Laid v.auth f
    → (strings_fit 1024 (before_signature os v) 0 && strings_fit 1024 (behind_signature os v) 0) ≡ strings_short (unsigned_tree f)
unfolding Within
strings-law os v f ok e laid =
    let w = ok.canonical.within.2 in
    let a = w.2.2.2.2.1.2 in
    let shape = sym e ∙ tree_shape f in
    let first : before_signature os v ≡ joined (size f) (suc (bare f.ctx)) 4 (firsts f) (ids f) =
    ap (λ o. before_signature o v) shape ∙ before-is (before f (size f)) (161 + bare f.ctx) (front (auth_of f)) (signed (auth_of f)) (behind f) v laid.place laid.entry laid.end ∙ front-shape f in
    let last : behind_signature os v ≡ behind f =
    ap (λ o. behind_signature o v) shape ∙ behind-is (before f (size f)) (161 + bare f.ctx) (front (auth_of f)) (signed (auth_of f)) (behind f) v laid.place laid.entry laid.end in
    let one = ap (λ xs. strings_fit 1024 xs 0) first
    ∙ front_scan (size f) (suc (bare f.ctx)) 4 (firsts f) (ids f) 31 30 (size_small f) (bare-small f.ctx) (omega arith)
    (w.0, w.1, (w.2.0, w.2.1, (w.2.2.0, w.2.2.1, (w.2.2.2.0, w.2.2.2.1, tt)))) (a.0, a.1, (a.2.0, a.2.1, tt)) (few-front f ok.canonical.few) in
    let two = ap (λ xs. strings_fit 1024 xs 0) last ∙ back_scan (contexts f) (lasts f) 30 31 a.2.2.2 w.2.2.2.2.2 (few-back f ok.canonical.few) in
    (λ i. one i && two i) ∙ short-split f

meta-law : (os : List ℕ) (m : Option Meta) (meta : Option (Option (List ℕ))) → Both (MetaShows os) m meta → meta_fits m ≡ meta_small meta
meta-law os None None b = refl
meta-law os (Some m) (Some echo) b = ap (λ n. leb n meta_most) b.span.long
meta-law os None (Some echo) b = absurd b
meta-law os (Some m) None b = absurd b

pub sizes_law : (os : List ℕ) (v : View) (f : Fields) → Valid f → encoding (tree f) ≡ os → Shows os v f → Laid v.auth f → sizes_fit os v ≡ Sizes f
unfolding sizes_fit
sizes_law os v f ok e s laid =
    let strings = strings-law os v f ok e laid in
    and_assoc (leb (length os) (message_most v.auth.alg) && leb v.cmd.args.len args_most && meta_fits v.meta) (strings_fit 1024 (before_signature os v) 0) (strings_fit 1024 (behind_signature os v) 0)
    ∙ (λ i. (leb (length (sym e i)) (message_most (s.alg i)) && leb (s.args.long i) args_most && meta-law os v.meta f.meta s.meta i) && strings i)
