-- What a closeStream and a deleteStream want: "nothing unless connected and the first argument is a number whose u32 names a stream"
use Rattle.std.specs.Prelude.{ℕ, Option, Some, None}
use Rattle.std.specs.Option.{option_map}
use Rattle.numbers.specs.Whole.{u32_of}
use Rattle.text.specs.declared.ids.StreamId.{StreamId}
use Rattle.amf0.specs.declared.plain.Plain.{Plain}
use Rattle.wishes.specs.Values.{bits_in}
use Rattle.wishes.specs.declared.wish.Wish.{Wish}
use Rattle.wishes.specs.declared.wish.Wish.TheVariants.{CloseStream, DeleteStream, Nothing}

abbrev pub stream_of_bits : ℕ → StreamId
stream_of_bits b = record { 0 = u32_of b }

abbrev pub stream_in : Option Plain → Option StreamId
stream_in v = option_map stream_of_bits (bits_in v)

abbrev pub if_stream : (StreamId → Wish) → Option StreamId → Wish
if_stream wish (Some x) = wish x
if_stream wish None = Nothing

-- of the first argument
abbrev pub close_wish : Option Plain → Wish
close_wish v = if_stream CloseStream (stream_in v)

abbrev pub delete_wish : Option Plain → Wish
delete_wish v = if_stream DeleteStream (stream_in v)
