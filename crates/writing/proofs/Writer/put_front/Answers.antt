-- `put_front` meets its contract: its numbers one behind the other.
use Rattle.writing.proofs.Stored.{put_join}
use Rattle.writing.proofs.Writer.put_front.Goals as goal

pub returns : goal.returns
returns c =
    let speed = rw c.from.ensures at c.put-3.ensures in
    let purpose = rw c.from-2.ensures at c.put-4.ensures in
    let length = rw c.station_bytes-station.ensures at c.put-5.ensures in
    put_join (put_join (put_join (put_join c.put.ensures c.put-2.ensures) speed) purpose) length
