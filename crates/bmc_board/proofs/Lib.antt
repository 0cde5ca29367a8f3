pub mod Rightly
pub mod LiveReplies
mod LiveServed
pub mod BootFacts
pub mod ChannelFacts
pub mod AttributeFacts
pub mod PartFacts
pub mod LanFacts
pub mod AskedFacts
pub mod LiveFacts
pub mod LogFacts
pub mod SensingFacts
pub mod BothFacts
pub mod StoresFacts
pub mod AnswerFacts
pub mod OneAnswer
pub mod FromAnyone
pub mod Decoded
pub mod SeriesFacts
pub mod Quiet
pub mod ShownAgain
pub mod Undone
pub mod BiosTableFacts
pub mod AttributeValues
mod AttributeSets
pub mod Fitting
