-- Refusals of a text.
use Rattle.hex.specs.declared.error.FromHexError.{FromHexError}
use Rattle.hex.specs.declared.error.FromHexError.TheVariants as hex
use Rattle.farm_base.specs.declared.want.WantsRefusal.{WantsRefusal}
use Rattle.farm_base.specs.declared.want.WantsRefusal.TheVariants as wants
use Rattle.words.specs.declared.refusal.ReadRefusal.{ReadRefusal}
use Rattle.words.specs.declared.refusal.ReadRefusal.TheVariants.{BadForm, OutOfMemory}

-- digits that can't be read have a bad form
abbrev pub hex_refusal : FromHexError → ReadRefusal
hex_refusal (hex.InvalidHexCharacter c index) = BadForm
hex_refusal hex.OddLength = BadForm
hex_refusal hex.InvalidStringLength = BadForm
hex_refusal hex.OutOfMemory = OutOfMemory

-- wants that aren't lawful have a bad form
abbrev pub wants_refusal : WantsRefusal → ReadRefusal
wants_refusal wants.TooManyWants = BadForm
wants_refusal wants.SameFolderTwice = BadForm
wants_refusal wants.OutOfMemory = OutOfMemory
