pub mod RoomPlans
pub mod MadeRooms
pub mod Asked
pub mod Serving
