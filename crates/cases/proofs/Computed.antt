-- The cases of the table, each by computing.
use Rattle.std.proofs.Common.{refl}
use Rattle.journal.specs.Journals.{source_to, first_free}
use Rattle.items.specs.Heads.{long_head, head_from, head_at, head_size, fault_at, skipped, text_read}
use Rattle.items.specs.Reading.{items_of, entries_of, body_of, item_with, inside, item_of, read_of}
use Rattle.line.specs.Bits.{low, bits_of, number, octets_of, octets_in, tone, tone_before, decoded}
use Rattle.line.specs.Fcs.{shift, shifts, step, register}
use Rattle.line.specs.Flags.{starts, first_flag, past_flags, body_start, closing, between}
use Rattle.line.specs.Hearing.{hears_line, hears}
use Rattle.line.specs.Stuffing.{stuff, unstuff}
use Rattle.cases.specs.Table.{CasesHold}

pub all_hold : CasesHold
unfolding source_to first_free long_head head_from head_at head_size fault_at skipped text_read items_of entries_of body_of item_with inside item_of read_of low bits_of number octets_of octets_in tone tone_before decoded shift shifts step register starts first_flag past_flags body_start closing between hears_line hears stuff unstuff
all_hold = (refl, (refl, (refl, (refl, (refl, (refl, (refl, (refl, (refl, (refl, (refl, (refl, (refl, (refl, (refl, (refl, (refl, (refl, (refl, (refl, ((refl, refl), (refl, (λ conditions store on. rw on, (λ conditions store on. rw on, (λ conditions store on. rw on, (λ conditions store on. rw on, tt))))))))))))))))))))))))))
