-- What a message orders: the command types, each with its arguments.
use Rattle.std.specs.Prelude.{ℕ, ◌+◌, Bool, true, cond, ◌||◌, ℤ, Some, None, Ok, Err, Option, Result, ◌==◌, nat_le}
use Rattle.answers.specs.declared.refusal.Refusal.{Refusal}
use Rattle.answers.specs.declared.refusal.Refusal.TheVariants.{UnknownCommand, BadArguments}
use Rattle.items.specs.Fields.{bind}
use Rattle.commands.specs.Arguments.{Source, number_in, between_in, signed_in, optional_in, track_in, text_in}

-- an order: T is a track, S a text as it is shown
pub data Order (T S : Type 0) : Type 0 where
  heartbeat : Option ℕ → Order T S
  queue : T → ℤ → Option ℕ → Option ℕ → Order T S
  suggest : T → ℤ → Order T S
  remove : ℕ → Order T S
  state : ℕ → Order T S
  seek : ℤ → Order T S
  rate : ℕ → Order T S
  next : Order T S
  previous : Order T S
  text : ℕ → ℕ → S → Order T S
  reserved : ℕ → Order T S

-- the command types that are listed: 0 to 3, 10 to 14, 20, and the reserved 30 and 31
abbrev pub listed_type : ℕ → Bool
listed_type kind = kind == 0 || (kind == 1 || (kind == 2 || (kind == 3 || (kind == 10 || (kind == 11 || (kind == 12 || (kind == 13 || (kind == 14 || (kind == 20 || (kind == 30 || kind == 31))))))))))

-- how many arguments an optional one is
abbrev pub given : Option ℕ → ℕ
given None = 0
given (Some n) = 1

-- latest is not below earliest, where both are there
abbrev pub in_order : Option ℕ → Option ℕ → Bool
in_order None latest = true
in_order (Some e) None = true
in_order (Some e) (Some l) = nat_le e l

module _ {V T S : Type 0} (source : Source V T S) where
  -- the order, if no key is there but the first n, of which m were found
  abbrev pub closing : ℕ → ℕ → Order T S → Option (Order T S)
  closing n m order = cond (source.only n m) (Some order) None

  -- optional time
  abbrev pub heartbeat_in : Option (Order T S)
  heartbeat_in = bind (optional_in source 0) (λ time. closing 1 (given time) (heartbeat time))

  -- track, priority -10 to 10, optional earliest, optional latest, which is not below earliest
  abbrev pub queue_in : Option (Order T S)
  queue_in =
      bind (track_in source 0) (λ track.
      bind (signed_in source 1 10) (λ priority.
      bind (optional_in source 2) (λ earliest.
      bind (optional_in source 3) (λ latest.
      cond (in_order earliest latest) (closing 4 (2 + given earliest + given latest) (queue track priority earliest latest)) None))))

  -- track, weight -5 to 5
  abbrev pub suggest_in : Option (Order T S)
  suggest_in = bind (track_in source 0) (λ track. bind (signed_in source 1 5) (λ weight. closing 2 2 (suggest track weight)))

  -- item
  abbrev pub remove_in : Option (Order T S)
  remove_in = bind (number_in source 0) (λ item. closing 1 1 (remove item))

  -- state 0 to 2
  abbrev pub state_in : Option (Order T S)
  state_in = bind (between_in source 0 0 2) (λ n. closing 1 1 (state n))

  -- milliseconds -60,000 to 60,000
  abbrev pub seek_in : Option (Order T S)
  seek_in = bind (signed_in source 0 60000) (λ milliseconds. closing 1 1 (seek milliseconds))

  -- rate 50 to 200
  abbrev pub rate_in : Option (Order T S)
  rate_in = bind (between_in source 0 50 200) (λ percent. closing 1 1 (rate percent))

  -- target 0 to 2, mode 0 to 2, text
  abbrev pub text_order_in : Option (Order T S)
  text_order_in = bind (between_in source 0 0 2) (λ target. bind (between_in source 1 0 2) (λ mode. bind (text_in source 2) (λ shown. closing 3 3 (text target mode shown))))

  -- the order, or that its arguments are not as listed
  abbrev pub listed : Option (Order T S) → Result (Order T S) Refusal
  listed None = Err BadArguments
  listed (Some order) = Ok order

  -- the order of a command type: the types that are listed, each with its arguments
  unfoldable pub order_in : ℕ → Result (Order T S) Refusal
  order_in kind =
      cond (kind == 0) (listed heartbeat_in)
      (cond (kind == 1) (listed queue_in)
      (cond (kind == 2) (listed suggest_in)
      (cond (kind == 3) (listed remove_in)
      (cond (kind == 10) (listed state_in)
      (cond (kind == 11) (listed seek_in)
      (cond (kind == 12) (listed rate_in)
      (cond (kind == 13) (listed (closing 0 0 next))
      (cond (kind == 14) (listed (closing 0 0 previous))
      (cond (kind == 20) (listed text_order_in)
      (cond (kind == 30 || kind == 31) (Ok (reserved kind))
      (Err UnknownCommand)))))))))))
