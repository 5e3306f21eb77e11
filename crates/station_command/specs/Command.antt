-- The commands.
use Rattle.ring.specs.Ring.{fresh_of}
use Rattle.codec_answers.specs.declared.Outcome.TheVariants as outcome
use Rattle.station.specs.declared.state.ConnectivityState.{ConnectivityState}
use Rattle.station.specs.declared.state.ConnectivityState.TheVariants as connectivity
use Rattle.station.specs.declared.state.State.TheVariants.{Offline}
use Rattle.station.specs.declared.station.Station.{Station}
use Rattle.station.specs.Parts.{with_connectivity, fresh_core}
use Rattle.station.specs.Steps.{done_of, ring_step_of}
use Rattle.station_answer.specs.Answer.{Polled, polled_of}

-- set_state, online and passive: all but the connectivity state stays; the state is as before until the next poll
unfoldable pub connect_of : Station → ConnectivityState → Polled
connect_of s x =
    polled_of s.p s.applications s.counts (ring_step_of (done_of s.state (with_connectivity s.core x) outcome.None) s.token_ring)

-- set_online
unfoldable pub online_of : Station → Polled
online_of s = connect_of s connectivity.Online

-- set_offline, set_state: a fresh station (document 02: fresh but for the counts)
unfoldable pub offline_of : Station → Polled
offline_of s =
    polled_of s.p s.applications s.counts (ring_step_of (done_of Offline fresh_core outcome.None) (fresh_of s.p.address))

-- set_passive (document 02: accepted)
unfoldable pub passive_of : Station → Polled
passive_of s = connect_of s connectivity.Passive
