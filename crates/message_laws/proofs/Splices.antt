-- What is signed is the encoding without the signature.
use Rattle.std.proofs.Common.{◌≡◌, ℕ, suc, ◌+◌, ◌-◌, List, [], ◌∷◌, ◌++◌, length, get_or, take, drop, Some, None, Option, sym, refl, ap, ◌∙◌, append_assoc, arith, length-append, drop-drop, take_at, drop_at}
use lib.Seq.{get_or_at}
use Rattle.items.specs.Trees.{bytes, map, no_entries, head_of, encoding, entries_encoding}
use Rattle.message.specs.declared.types.View.{View}
use Rattle.message.specs.Checks.{transcript_of}
use Rattle.message.specs.Sizes.{before_signature, behind_signature}
use Rattle.message.specs.Fields.{Fields, optionally, meta_tree, tree, unsigned_tree}
use Rattle.message_laws.proofs.Auths.{bare, front, signed}
use Rattle.message_laws.proofs.Views.{auth_of, before, size, Laid}

module _ (xs : List ℕ) (h : ℕ) (ys zs ws : List ℕ) where
  abbrev pub whole : List ℕ
  whole = xs ++ (h ∷ (ys ++ (zs ++ ws)))

  module _ (v : View) (place : v.auth.place ≡ length xs) (entry : v.auth.entry ≡ v.auth.place + 1 + length ys) (end : v.auth.signature.start + v.auth.signature.len ≡ v.auth.entry + length zs) where
    pub before-is : before_signature whole v ≡ xs ++ (h ∷ ys)
    before-is =
        let l : length (xs ++ (h ∷ ys)) ≡ v.auth.entry = length-append xs (h ∷ ys) ∙ omega arith in
        ap (take v.auth.entry) (sym (append_assoc xs (h ∷ ys) (zs ++ ws))) ∙ take_at (xs ++ (h ∷ ys)) (zs ++ ws) v.auth.entry l

    pub behind-is : behind_signature whole v ≡ ws
    behind-is =
        let l : length (xs ++ (h ∷ (ys ++ zs))) ≡ v.auth.signature.start + v.auth.signature.len = length-append xs (h ∷ (ys ++ zs)) ∙ omega (arith, length-append ys zs) in
        let s : (xs ++ (h ∷ (ys ++ zs))) ++ ws ≡ whole = append_assoc xs (h ∷ (ys ++ zs)) ws ∙ ap (λ t. xs ++ (h ∷ t)) (append_assoc ys zs ws) in
        drop-drop v.auth.signature.len v.auth.signature.start whole
        ∙ ap (drop (v.auth.signature.start + v.auth.signature.len)) (sym s)
        ∙ drop_at (xs ++ (h ∷ (ys ++ zs))) ws (v.auth.signature.start + v.auth.signature.len) l

    pub spliced : transcript_of whole v ≡ xs ++ ((h - 1) ∷ (ys ++ ws))
    unfolding transcript_of
    spliced =
        let e₀ : take v.auth.place whole ≡ xs = take_at xs (h ∷ (ys ++ (zs ++ ws))) v.auth.place (sym place) in
        let e₁ : get_or whole v.auth.place 0 ≡ h = get_or_at xs h (ys ++ (zs ++ ws)) 0 v.auth.place (sym place) in
        let e₂ : drop v.auth.place whole ≡ h ∷ (ys ++ (zs ++ ws)) = drop_at xs (h ∷ (ys ++ (zs ++ ws))) v.auth.place (sym place) in
        let e₃ : take (v.auth.entry - v.auth.place - 1) (drop 1 (drop v.auth.place whole)) ≡ ys = ap (λ t. take (v.auth.entry - v.auth.place - 1) (drop 1 t)) e₂ ∙ take_at ys (zs ++ ws) (v.auth.entry - v.auth.place - 1) (omega arith) in
        λ i. e₀ i ++ ((e₁ i - 1) ∷ (e₃ i ++ behind-is i))

-- the head of auth is one octet
pub one_more : (ctx : Option (List ℕ)) → head_of 5 (suc (bare ctx)) ≡ (161 + bare ctx) ∷ []
unfolding head_of
one_more None = refl
one_more (Some bs) = refl

pub one_less : (ctx : Option (List ℕ)) → head_of 5 (bare ctx) ≡ (160 + bare ctx) ∷ []
unfolding head_of
one_less None = refl
one_less (Some bs) = refl

-- what comes behind the signature's entry
abbrev pub behind : Fields → List ℕ
behind f = entries_encoding (optionally 3 bytes f.ctx no_entries) ++ entries_encoding (optionally 5 meta_tree f.meta (optionally 6 map f.ext no_entries))

pub tree_shape : (f : Fields) → encoding (tree f) ≡ whole (before f (size f)) (161 + bare f.ctx) (front (auth_of f)) (signed (auth_of f)) (behind f)
unfolding encoding
tree_shape f = rw (one_more f.ctx) (simp append_assoc)

unsigned-shape : (f : Fields) → encoding (unsigned_tree f) ≡ before f (size f) ++ ((160 + bare f.ctx) ∷ (front (auth_of f) ++ behind f))
unfolding encoding
unsigned-shape f = rw (one_less f.ctx) (simp append_assoc)

pub transcript_law : (os : List ℕ) (v : View) (f : Fields) → encoding (tree f) ≡ os → Laid v.auth f → transcript_of os v ≡ encoding (unsigned_tree f)
transcript_law os v f e laid =
    let low : 161 + bare f.ctx - 1 ≡ 160 + bare f.ctx = omega arith in
    ap (λ o. transcript_of o v) (sym e ∙ tree_shape f)
    ∙ spliced (before f (size f)) (161 + bare f.ctx) (front (auth_of f)) (signed (auth_of f)) (behind f) v laid.place laid.entry laid.end
    ∙ ap (λ k. before f (size f) ++ (k ∷ (front (auth_of f) ++ behind f))) low
    ∙ sym (unsigned-shape f)
