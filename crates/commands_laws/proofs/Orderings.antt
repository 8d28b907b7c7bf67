-- The request that is read shows the order of the tree.
use Rattle.std.proofs.Common.{◌≡◌, ℕ, ◌+◌, Bool, true, false, cond, ◌||◌, eqb, List, Some, None, Option, Result, sym, refl, subst, arith}
use Rattle.answers.specs.declared.refusal.Refusal.{Refusal}
use Rattle.items.specs.declared.types.Span.{Span}
use Rattle.items.specs.Fields.{bind}
use Rattle.items.specs.Trees.{Entries, map, encoding, Canonical, At}
use Rattle.commands.specs.declared.types.Track as declared
use Rattle.commands.specs.declared.types.Request.{Request}
use Rattle.commands.specs.Orders.{Order, next, previous, reserved, given, in_order, closing, heartbeat_in, queue_in, suggest_in, remove_in, state_in, seek_in, rate_in, text_order_in, listed, order_in}
use Rattle.commands.specs.Octets.{arguments_at, request_of, answered, request_at}
use Rattle.commands.specs.Entries.{Track, arguments_of, order_of}
use Rattle.commands_laws.specs.Laws.{Shows, shows_heartbeat, shows_queue, shows_suggest, shows_remove, shows_state, shows_seek, shows_rate, shows_next, shows_previous, shows_text, shows_reserved, Answers, AnswersOrder}
use Rattle.commands_laws.proofs.Leaves.{Both, number_same, between-same, signed_same, optional-same, tracks, texts, only_same, number-found, between-found, signed-found, optional-found, track-found, text-found}

abbrev Read : Type 0
Read = Order declared.Track Span

abbrev Meant : Type 0
Meant = Order Track (List ℕ)

module _ (os : List ℕ) where
  abbrev Match : Option Read → Option Meant → Type 0
  Match = Both (λ x y. Shows os (request_of x) y)

  -- the same value on both sides
  go_same : {X : Type 0} (x y : Option X) (f : X → Option Read) (g : X → Option Meant) → x ≡ y → ((v : X) → y ≡ Some v → Match (f v) (g v)) → Match (bind x f) (bind y g)
  go_same x y f g e onward = subst (λ o. Match (bind o f) (bind y g)) (sym e) (by y refl)
    where
      by : (o : Option _) → y ≡ o → Match (bind o f) (bind o g)
      by None is = tt
      by (Some v) is = onward v is

  -- values that are related
  go_both : {X Y : Type 0} (R : X → Y → Type 0) (x : Option X) (y : Option Y) (f : X → Option Read) (g : Y → Option Meant) → Both R x y → ((v : X) (w : Y) → R v w → y ≡ Some w → Match (f v) (g w)) → Match (bind x f) (bind y g)
  go_both R None None f g r onward = tt
  go_both R None (Some y) f g r onward = absurd r
  go_both R (Some x) None f g r onward = absurd r
  go_both R (Some x) (Some y) f g r onward = onward x y r refl

  last : (b c : Bool) (x : Read) (y : Meant) → b ≡ c → Shows os (request_of x) y → Match (cond b (Some x) None) (cond c (Some y) None)
  last b c x y e s = subst (λ d. Match (cond d (Some x) None) (cond c (Some y) None)) (sym e) (by c)
    where
      by : (d : Bool) → Match (cond d (Some x) None) (cond d (Some y) None)
      by true = s
      by false = tt

  provided : (b : Bool) (x : Option Read) (y : Option Meant) → Match x y → Match (cond b x None) (cond b y None)
  provided true x y m = m
  provided false x y m = tt

  -- the answers
  abbrev Replies : Result Read Refusal → Result Meant Refusal → Type 0
  Replies x y = Answers os y (answered x)

  either : (b : Bool) (x x' : Result Read Refusal) (y y' : Result Meant Refusal) → Replies x y → Replies x' y' → Replies (cond b x x') (cond b y y')
  either true x x' y y' r r' = r
  either false x x' y y' r r' = r'

  module _ (p : ℕ) (es : Entries) (good : Canonical (map es)) (a : At os p (encoding (map es))) where
    replied : (x : Option Read) (y : Option Meant) → Match x y → Replies (listed (arguments_at os p) x) (listed (arguments_of es) y)
    replied None None m = refl
    replied None (Some y) m = absurd m
    replied (Some x) None m = absurd m
    replied (Some x) (Some y) m = (request_of x, refl, m)

    heartbeats : Match (heartbeat_in (arguments_at os p)) (heartbeat_in (arguments_of es))
    heartbeats = go_same _ _ _ _ (optional-same os p es good a 0) (λ time e₀.
        last _ _ _ _ (only_same os p es good a 1 (given time) (omega (arith, optional-found es 0 time e₀))) (shows_heartbeat time))

    queues : Match (queue_in (arguments_at os p)) (queue_in (arguments_of es))
    queues = go_both _ _ _ _ _ (tracks os p es good a 0) (λ t u shows e₀.
        go_same _ _ _ _ (signed_same os p es good a 1 10 (omega arith)) (λ z e₁.
        go_same _ _ _ _ (optional-same os p es good a 2) (λ earliest e₂.
        go_same _ _ _ _ (optional-same os p es good a 3) (λ latest e₃.
        provided (in_order earliest latest) _ _
        (last _ _ _ _ (only_same os p es good a 4 (2 + given earliest + given latest) (omega (arith, track-found es 0 u e₀, signed-found es 1 10 z e₁, optional-found es 2 earliest e₂, optional-found es 3 latest e₃))) (shows_queue t u shows z earliest latest))))))

    suggests : Match (suggest_in (arguments_at os p)) (suggest_in (arguments_of es))
    suggests = go_both _ _ _ _ _ (tracks os p es good a 0) (λ t u shows e₀.
        go_same _ _ _ _ (signed_same os p es good a 1 5 (omega arith)) (λ z e₁.
        last _ _ _ _ (only_same os p es good a 2 2 (omega (arith, track-found es 0 u e₀, signed-found es 1 5 z e₁))) (shows_suggest t u shows z)))

    removes : Match (remove_in (arguments_at os p)) (remove_in (arguments_of es))
    removes = go_same _ _ _ _ (number_same os p es good a 0) (λ n e₀. last _ _ _ _ (only_same os p es good a 1 1 (omega (arith, number-found es 0 n e₀))) (shows_remove n))

    states : Match (state_in (arguments_at os p)) (state_in (arguments_of es))
    states = go_same _ _ _ _ (between-same os p es good a 0 0 2) (λ n e₀. last _ _ _ _ (only_same os p es good a 1 1 (omega (arith, between-found es 0 0 2 n e₀))) (shows_state n))

    seeks : Match (seek_in (arguments_at os p)) (seek_in (arguments_of es))
    seeks = go_same _ _ _ _ (signed_same os p es good a 0 60000 (omega arith)) (λ z e₀. last _ _ _ _ (only_same os p es good a 1 1 (omega (arith, signed-found es 0 60000 z e₀))) (shows_seek z))

    rates : Match (rate_in (arguments_at os p)) (rate_in (arguments_of es))
    rates = go_same _ _ _ _ (between-same os p es good a 0 50 200) (λ n e₀. last _ _ _ _ (only_same os p es good a 1 1 (omega (arith, between-found es 0 50 200 n e₀))) (shows_rate n))

    text-orders : Match (text_order_in (arguments_at os p)) (text_order_in (arguments_of es))
    text-orders = go_same _ _ _ _ (between-same os p es good a 0 0 2) (λ target e₀.
        go_same _ _ _ _ (between-same os p es good a 1 0 2) (λ mode e₁.
        go_both _ _ _ _ _ (texts os p es good a 2) (λ s bs spot e₂.
        last _ _ _ _ (only_same os p es good a 3 3 (omega (arith, between-found es 0 0 2 target e₀, between-found es 1 0 2 mode e₁, text-found es 2 bs e₂))) (shows_text target mode s bs spot))))

    bares : (x : Read) (y : Meant) → Shows os (request_of x) y → Match (closing (arguments_at os p) 0 0 x) (closing (arguments_of es) 0 0 y)
    bares x y s = last _ _ _ _ (only_same os p es good a 0 0 refl) s

    orders : (kind : ℕ) → Replies (order_in (arguments_at os p) kind) (order_in (arguments_of es) kind)
    unfolding order_in
    orders kind =
        either (eqb kind 0) _ _ _ _ (replied _ _ heartbeats)
        (either (eqb kind 1) _ _ _ _ (replied _ _ queues)
        (either (eqb kind 2) _ _ _ _ (replied _ _ suggests)
        (either (eqb kind 3) _ _ _ _ (replied _ _ removes)
        (either (eqb kind 10) _ _ _ _ (replied _ _ states)
        (either (eqb kind 11) _ _ _ _ (replied _ _ seeks)
        (either (eqb kind 12) _ _ _ _ (replied _ _ rates)
        (either (eqb kind 13) _ _ _ _ (replied _ _ (bares next next shows_next))
        (either (eqb kind 14) _ _ _ _ (replied _ _ (bares previous previous shows_previous))
        (either (eqb kind 20) _ _ _ _ (replied _ _ text-orders)
        (either (eqb kind 30 || eqb kind 31) _ _ _ _ (request_of (reserved kind), refl, shows_reserved kind)
        refl))))))))))

  pub answers_order : (kind p : ℕ) (r : Result Request Refusal) → r ≡ request_at os kind p → AnswersOrder os kind p r
  unfolding request_at
  answers_order kind p r is es good a = subst (Answers os (order_of kind es)) (sym is) (orders p es good a kind)
