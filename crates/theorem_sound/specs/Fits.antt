-- The answer to a call. That every answer of a sound station fits its 64 bits, and is what is read from them, is proved in proofs/Fits.
use Rattle.codec_answers.specs.declared.Answer.{Answer}
use Rattle.station.specs.declared.station.Station.{Station}
use Rattle.station_poll.specs.Poll.{poll_of}
use Rattle.station_command.specs.Command.{online_of, offline_of, passive_of}
use Rattle.theorem_sound.specs.Sound.{Call, poll, online, offline, passive}

-- the answer to a call
abbrev pub answer_to : Station → Call → Answer
answer_to s (poll bytes) = (poll_of s bytes).answer
answer_to s online = (online_of s).answer
answer_to s offline = (offline_of s).answer
answer_to s passive = (passive_of s).answer
