-- Two answers of example 12 as document 02, P5, has it, a refused entry, and two words that no answer has.
use Rattle.std.specs.Prelude.{◌≡◌, refl, Some, None}
use Rattle.codec_fields.specs.Fields.{field_of, put_of}
use Rattle.codec_answers.specs.declared.Outcome.TheVariants.{Transmission, Bus}
use Rattle.codec_answers.specs.declared.Sent.TheVariants.{Nothing, Token}
use Rattle.codec_answers.specs.declared.Notice.TheVariants.{NoNotice}
use Rattle.codec_answers.specs.Answers.{outcome_of, sent_fields, sent_from, notice_fields, notice_from, refused_answer, answer_word, full_of, answer_of, refusal_known, sent_meant, meant, unpack_of}

-- a poll that finds the bus silent, one that sends the token to station 5 itself, both with nobody next to it; a refused entry, with
-- station 5 next; and two words that no answer has
pub examples :
    (unpack_of 0x03100000000001fc
    ≡ Some (record { refusal = 0; outcome = Bus; state = 1; sent = Nothing; consumed = 0; notice = NoNotice; next_application = 0; next_station = 127 }))
    × (unpack_of 0x02421400300001fc
    ≡ Some (record { refusal = 0; outcome = Transmission; state = 4; sent = Token 5; consumed = 0; notice = NoNotice; next_application = 0; next_station = 127 }))
    × (unpack_of 0x6010000000000014 ≡ Some (refused_answer 12 1 0 5))
    × (unpack_of 0x6110000000000014 ≡ None)
    × (unpack_of 0x0310000000000015 ≡ None)
unfolding outcome_of sent_fields sent_from notice_fields notice_from refused_answer answer_word full_of answer_of refusal_known sent_meant meant unpack_of field_of put_of
examples = (refl, refl, refl, refl, refl)
