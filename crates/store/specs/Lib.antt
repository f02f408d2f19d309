pub mod Returned
pub mod Tickets
pub mod OneByOne
pub mod Machine
