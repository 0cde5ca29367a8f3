-- The records that a run asks for, by its words.
use Rattle.std.proofs.Common.{◌≡◌, Bool, List, subst}
use Rattle.app_look.specs.declared.session.Session.{Session}
use Rattle.app_show.specs.declared.keys.IdRange.{IdRange}
use Rattle.app_show.specs.declared.reading.ReadFault.{ReadFault}
use Rattle.app_show.specs.declared.reading.Reader.{Reader}
use Rattle.app_show.specs.Asking.{AsksAll}
use Rattle.app_show.specs.Reading.{ReadsOn, StopsBy}

pub reads_all : (smbus known : Bool) (effecters ids : List IdRange) → smbus ≡ known → effecters ≡ ids → (from to : Session) (old new : Reader) → ReadsOn (AsksAll smbus effecters) from to old new
    → ReadsOn (AsksAll known ids) from to old new
reads_all smbus known effecters ids on are from to old new reads =
    subst (λ (b : Bool). ReadsOn (AsksAll b ids) from to old new) on (subst (λ (l : List IdRange). ReadsOn (AsksAll smbus l) from to old new) are reads)

pub stops_all : (told why : ReadFault) (smbus known : Bool) (effecters ids : List IdRange) → told ≡ why → smbus ≡ known → effecters ≡ ids → (from to : Session) (old new : Reader)
    → StopsBy (AsksAll smbus effecters) told from to old new → StopsBy (AsksAll known ids) why from to old new
stops_all told why smbus known effecters ids is on are from to old new stops =
    subst (λ (w : ReadFault). StopsBy (AsksAll known ids) w from to old new) is
    (subst (λ (b : Bool). StopsBy (AsksAll b ids) told from to old new) on (subst (λ (l : List IdRange). StopsBy (AsksAll smbus l) told from to old new) are stops))
