-- What is not given is 0 in every field.
use Rattle.std.proofs.Common.{◌≡◌, ◌∙◌, ℕ, ◌<◌, List, replicate, length, sym, arith, pos}
use Rattle.std.specs.Array.{AllOfLen}
use Rattle.std.proofs.lemmas.List.{ext_get_or, length-replicate, get_or-replicate}
use Rattle.owac_c.specs.declared.host.OwacOptional.{OwacOptional}
use Rattle.owac_c.specs.declared.host.OwacPair.{OwacPair}
use Rattle.owac_c.specs.declared.host.OwacMark.{OwacMark}
use Rattle.owac_c.specs.declared.answer.OwacSpan.{OwacSpan}
use Rattle.owac_c.specs.declared.answer.OwacCommand.{OwacCommand}
use Rattle.owac_c.specs.Answers.{no_pair, no_mark, no_command}

zeros : (xs : List ℕ) (n : ℕ) → AllOfLen (λ x. x ≡ 0) xs n → xs ≡ replicate n 0
zeros xs n a =
    let long : length xs ≡ n = a.long in
    ext_get_or 0 xs (replicate n 0) (long ∙ sym (length-replicate n 0))
    (λ i h. let k : i < n = omega (arith, long) in a.at i 0 k ∙ sym (get_or-replicate n i 0 0 k))

abbrev IsAbsent : OwacOptional → Type 0
IsAbsent o = (o.value ≡ 0) × (o.given ≡ 0)

abbrev IsNowhere : OwacSpan → Type 0
IsNowhere s = (s.start ≡ 0) × (s.length ≡ 0)

pub pair_zero : (p : OwacPair) → AllOfLen (λ x. x ≡ 0) p.sid 16 × AllOfLen (λ x. x ≡ 0) p.kid 16 → p ≡ no_pair
pair_zero p (s, k) = λ i. record { sid = zeros p.sid 16 s i; kid = zeros p.kid 16 k i }

pub mark_zero : (m : OwacMark) → (m.epoch ≡ 0) × ((m.counter ≡ 0) × AllOfLen (λ x. x ≡ 0) m.hash 32) → m ≡ no_mark
mark_zero m (e, (c, h)) = λ i. record { epoch = e i; counter = c i; hash = zeros m.hash 32 h i }

pub command_zero : (c : OwacCommand)
    → (c.kind ≡ 0) × ((c.priority ≡ pos 0) × ((c.weight ≡ pos 0) × ((c.state ≡ 0) × ((c.percent ≡ 0) × ((c.target ≡ 0) × ((c.mode ≡ 0) × ((c.milliseconds ≡ pos 0)
    × ((c.track ≡ 0) × ((c.item ≡ 0) × (IsAbsent c.time × (IsAbsent c.earliest × (IsAbsent c.until × IsNowhere c.text))))))))))))
    → c ≡ no_command
command_zero c (kind, (priority, (weight, (state, (percent, (target, (mode, (milliseconds, (track, (item, (time, (earliest, (until, text))))))))))))) =
    λ i. record {
      kind = kind i;
      priority = priority i;
      weight = weight i;
      state = state i;
      percent = percent i;
      target = target i;
      mode = mode i;
      milliseconds = milliseconds i;
      track = track i;
      item = item i;
      time = record { value = time.0 i; given = time.1 i };
      earliest = record { value = earliest.0 i; given = earliest.1 i };
      until = record { value = until.0 i; given = until.1 i };
      text = record { start = text.0 i; length = text.1 i };
    }
