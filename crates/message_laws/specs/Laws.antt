-- What reading a message means for the fields that its octets encode.
use Rattle.std.specs.Prelude.{◌≡◌, ℕ, List, Ok, ◌≢◌}
use Rattle.items.specs.Trees.{encoding}
use Rattle.message.specs.declared.types.View.{View}
use Rattle.message.specs.Fields.{Fields, tree, Valid}
use Rattle.message.specs.Messages.{message_of}
use Rattle.message_laws.specs.Shows.{Shows}

-- os are the encoding of fields that a message may have, and of no other; and v shows them
pub record Encodes (os : List ℕ) (v : View) : Type 0 where
  pub fields : Fields
  pub valid : Valid fields
  pub is : encoding (tree fields) ≡ os
  pub only : (f : Fields) → Valid f → encoding (tree f) ≡ os → f ≡ fields
  pub shows : Shows os v fields

-- os are the encoding of no fields that a message may have
abbrev pub EncodesNone : List ℕ → Type 0
EncodesNone os = (f : Fields) → Valid f → encoding (tree f) ≢ os

-- where os are the encoding of f, and v is what was read of them, P f holds
abbrev pub OfFields : List ℕ → View → (Fields → Type 0) → Type 0
OfFields os v P = (f : Fields) → Valid f → encoding (tree f) ≡ os → message_of os ≡ Ok v → P f
