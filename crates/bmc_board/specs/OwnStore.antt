-- The store that a controller's board keeps its records in. Contracts above name it so, and no store by its own name.
use Rattle.cfg_records.specs.Records.{Records}
use Rattle.cfg_records.specs.declared.packed_store.PackedStore.{PackedStore}
use Rattle.cfg_records.specs.contracts.packed_store.PackedStoreStore.TheImpl as own

-- its type
abbrev pub OwnStore : Type 0
OwnStore = PackedStore

-- the records that it has
abbrev pub own_records : OwnStore → Records
own_records = (own.ghosts).records
