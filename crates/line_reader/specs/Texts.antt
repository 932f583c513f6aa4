-- How each fault is told. Assumes nothing.
use Rattle.std.specs.Prelude.{List, ℕ, codes}
use Rattle.line_reader.specs.declared.Fault.{Fault}
use Rattle.line_reader.specs.declared.Fault.TheVariants.{NoKind, NoColon, NoPayload, KindTooLarge, PayloadTooLarge, NotADigit, LeadingBlank, SecondItem}

abbrev pub text_of : Fault → List ℕ
text_of NoKind = codes "no kind in front of the colon"
text_of NoColon = codes "no colon"
text_of NoPayload = codes "no payload behind the colon"
text_of KindTooLarge = codes "the kind is over 63"
text_of PayloadTooLarge = codes "the payload is over 67108863"
text_of NotADigit = codes "neither a digit nor the colon"
text_of LeadingBlank = codes "a blank in front"
text_of SecondItem = codes "more than one word"
