pub mod GreetingRequests
pub mod LookRequests
pub mod Each
pub mod Made
pub mod Series
pub mod Frames
pub mod Sending
pub mod Sent
pub mod Begun
pub mod Calls
mod Restarts
pub mod Live
mod Joined
pub mod Only
pub mod Taken
pub mod Returns
pub mod Asked
pub mod Others
pub mod Goes
pub mod OtherParts
pub mod Parts
pub mod Quiet
pub mod Whole
pub mod Delivered
pub mod Steps
pub mod Stopped
pub mod Theorem
mod Restarted
pub mod Plays
pub mod CleanQueue
pub mod CleanFresh
pub mod CleanLog
pub mod CleanExchange
pub mod CleanTest
pub mod CleanPackets
pub mod CleanSmbus
pub mod CleanCounts
pub mod CleanParts
pub mod CleanGets
pub mod CleanBack
pub mod CleanOnes
pub mod CleanLink
pub mod CleanPlays
mod Holds
mod Packets
mod Repeats
mod Answers
mod Cuts
mod Machine
mod Sends
mod ClaimSeries
mod ClaimReturns
mod Ports
mod Labs
mod Honesty
mod Grows
mod Meaning
mod Claim
mod Controller
mod Refined
mod Strong
pub mod Promised
pub mod Stated
pub mod Fresh
pub mod Lists
pub mod Carrying
pub mod Hearing
pub mod Running
